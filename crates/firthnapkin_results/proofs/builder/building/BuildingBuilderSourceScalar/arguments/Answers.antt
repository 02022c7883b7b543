use Rattle.std.proofs.Common.{◌∙◌}
use Rattle.graphql_nodes.specs.Nodes.{argument_nodes, arguments_nodes}
use Rattle.juniper_complexity.specs.Gathered.{Keeps}
use Rattle.juniper_complexity.proofs.Public.{kept_each}
use Rattle.firthnapkin_results.proofs.Builders.{unnamed_text}
use Rattle.firthnapkin_results.proofs.Buildings.{each_added}
use Rattle.firthnapkin_results.proofs.builder.building.BuildingBuilderSourceScalar.arguments.Goals as goal

pub returns : goal.returns
unfolding arguments_nodes
returns g c first opened xs is_open each =
    let old = c.args.self.now in
    let added = each_added argument_nodes Keeps opened old _ xs each in (
      c.close_unnamed.ensures first.nodes opened.nodes _ _ unnamed_text is_open.0 added.0,
      is_open.1 ∙ kept_each opened.outlines old.outlines _ xs added.1,
    )
