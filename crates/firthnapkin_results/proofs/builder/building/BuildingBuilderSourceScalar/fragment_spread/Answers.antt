use Rattle.graphql_nodes.specs.Nodes.{selection_nodes, selections_nodes, optional_nodes}
use Rattle.juniper_tree.specs.View.{view_word}
use Rattle.firthnapkin_results.proofs.Builders.{named_text}
use Rattle.firthnapkin_results.proofs.Buildings.{directives_added}
use Rattle.firthnapkin_results.proofs.builder.building.BuildingBuilderSourceScalar.fragment_spread.Goals as goal

pub returns : goal.returns
unfolding selection_nodes selections_nodes optional_nodes
returns g c first opened ds is_open each =
    let name = view_word c.args.name.now in
    let directives = directives_added opened c.args.self.now _ ds each in (
      c.close.ensures first.nodes opened.nodes _ _ (named_text name) is_open.0 directives.0,
      c.end_spread.ensures first.outlines opened.outlines name ds is_open.1 directives.1,
    )
