use Rattle.std.proofs.Common.{rules}
use Rattle.juniper_tokens.proofs.cursor.Cursor.refuse.Goals as goal

pub returns-clause-gives : goal.returns-clause-gives
returns-clause-gives g c = search rules
