use Rattle.juniper_tree.specs.View.{view_value}
use Rattle.juniper_parser.proofs.Building.{seen_gives}
use Rattle.juniper_parser.proofs.parser.value.parse_value_tree.Goals as goal

pub returns-clause-gives : goal.returns-clause-gives
returns-clause-gives g c =
    seen_gives (view_value g.S.ParseScalarValue.content) _ _ _ c.parse_value_or.ensures.gives
