use Rattle.std.proofs.Common.{◌∙◌}
use Rattle.graphql_nodes.specs.Nodes.{argument_nodes}
use Rattle.juniper_tree.specs.View.{view_word}
use Rattle.firthnapkin_results.proofs.Builders.{named_text}
use Rattle.firthnapkin_results.proofs.builder.building.BuildingBuilderSourceScalar.argument.Goals as goal

pub returns : goal.returns
unfolding argument_nodes
returns g c first opened v is_open added = (
  c.close.ensures first.nodes opened.nodes _ _ (named_text (view_word c.args.name.now)) is_open.0 added.0,
  is_open.1 ∙ added.1,
)
