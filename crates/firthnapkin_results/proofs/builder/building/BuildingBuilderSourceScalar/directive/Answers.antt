use Rattle.std.proofs.Common.{◌∙◌}
use Rattle.graphql_nodes.specs.Nodes.{arguments_nodes, directive_nodes}
use Rattle.juniper_tree.specs.View.{view_word}
use Rattle.juniper_complexity.specs.Gathered.{Keeps}
use Rattle.juniper_complexity.proofs.Public.{kept_optional}
use Rattle.firthnapkin_results.proofs.Builders.{named_text}
use Rattle.firthnapkin_results.proofs.Buildings.{optional_added}
use Rattle.firthnapkin_results.proofs.builder.building.BuildingBuilderSourceScalar.directive.Goals as goal

pub returns : goal.returns
unfolding directive_nodes
returns g c first opened xs is_open some =
    let old = c.args.self.now in
    let added = optional_added arguments_nodes Keeps opened old _ xs some in (
      c.close.ensures first.nodes opened.nodes _ _ (named_text (view_word c.args.name.now)) is_open.0 added.0,
      is_open.1 ∙ kept_optional opened.outlines old.outlines _ xs added.1,
    )
