use Rattle.std.proofs.Common.{◌∙◌}
use Rattle.graphql_nodes.specs.Nodes.{nodes_at, items_nodes, fields_nodes}
use Rattle.juniper_tree.specs.View.{view_word}
use Rattle.firthnapkin_results.proofs.Builders.{named_text}
use Rattle.firthnapkin_results.proofs.builder.building.BuildingBuilderSourceScalar.object_field.Goals as goal

pub returns : goal.returns
unfolding nodes_at items_nodes fields_nodes
returns g c first opened v is_open added = (
  c.close.ensures first.nodes opened.nodes _ _ (named_text (view_word c.args.key.now)) is_open.0 added.0,
  is_open.1 ∙ added.1,
)
