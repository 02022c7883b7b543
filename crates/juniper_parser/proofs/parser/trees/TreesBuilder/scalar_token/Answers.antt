use Rattle.juniper_parser.proofs.FailedReadings.{fails}
use Rattle.juniper_parser.proofs.parser.trees.TreesBuilder.scalar_token.Goals as goal

pub returns-in-Err : goal.returns-in-Err
returns-in-Err g c = c.unread.ensures.gives _ (fails g.S.ParseScalarValue.content _ c.in-Err.failure c.in-Err.ensures)
