use Rattle.juniper_tree.specs.View.{view_definition}
use Rattle.juniper_parser.proofs.Building.{seen_gives}
use Rattle.juniper_parser.proofs.parser.definition.parse_definition_tree.Goals as goal

pub returns-clause-gives : goal.returns-clause-gives
returns-clause-gives g c =
    seen_gives (view_definition g.S.ParseScalarValue.content) _ _ _ c.parse_definition_or.ensures.gives
