use Rattle.std.proofs.Common.{◌∙◌, subst, sym}
use Rattle.graphql_nodes.specs.Nodes.{nodes_at, items_nodes, fields_nodes, value_nodes}
use Rattle.juniper_complexity.specs.Gathered.{Keeps}
use Rattle.juniper_complexity.proofs.Public.{kept_each}
use Rattle.firthnapkin_results.specs.Builders.{Adds}
use Rattle.firthnapkin_results.proofs.Builders.{items_each, unnamed_text}
use Rattle.firthnapkin_results.proofs.Buildings.{each_added}
use Rattle.firthnapkin_results.proofs.builder.building.BuildingBuilderSourceScalar.list.Goals as goal

pub returns : goal.returns
unfolding nodes_at items_nodes fields_nodes
returns g c first opened vs is_open each =
    let old = c.args.self.now in
    let added = each_added value_nodes Keeps opened old _ vs each in (
      c.close_unnamed.ensures first.nodes opened.nodes _ _ unnamed_text is_open.0
          (subst (Adds opened.nodes old.nodes) (sym (items_each vs)) added.0),
      is_open.1 ∙ kept_each opened.outlines old.outlines _ vs added.1,
    )
