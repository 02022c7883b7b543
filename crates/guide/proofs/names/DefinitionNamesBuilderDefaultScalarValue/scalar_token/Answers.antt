use Rattle.juniper_values.specs.Default.{default_content}
use Rattle.guide.proofs.DefinitionNames.{fails_reading}
use Rattle.guide.proofs.names.DefinitionNamesBuilderDefaultScalarValue.scalar_token.Goals as goal

pub returns : goal.returns
returns c = c.unread.ensures.gives _ (fails_reading default_content _ c.in-Err.failure c.in-Err.ensures)
