use Rattle.std.proofs.Common.{◌∙◌, subst, sym}
use Rattle.graphql_nodes.specs.Nodes.{nodes_at, items_nodes, fields_nodes}
use Rattle.juniper_complexity.specs.Gathered.{Keeps}
use Rattle.juniper_complexity.proofs.Public.{kept_each}
use Rattle.firthnapkin_results.specs.Builders.{Adds, field_nodes}
use Rattle.firthnapkin_results.proofs.Builders.{fields_each, unnamed_text}
use Rattle.firthnapkin_results.proofs.Buildings.{each_added}
use Rattle.firthnapkin_results.proofs.builder.building.BuildingBuilderSourceScalar.object.Goals as goal

pub returns : goal.returns
unfolding nodes_at items_nodes fields_nodes
returns g c first opened fs is_open each =
    let old = c.args.self.now in
    let added = each_added field_nodes Keeps opened old _ fs each in (
      c.close_unnamed.ensures first.nodes opened.nodes _ _ unnamed_text is_open.0
          (subst (Adds opened.nodes old.nodes) (sym (fields_each fs)) added.0),
      is_open.1 ∙ kept_each opened.outlines old.outlines _ fs added.1,
    )
