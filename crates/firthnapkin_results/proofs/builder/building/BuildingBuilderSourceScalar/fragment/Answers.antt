use Rattle.std.proofs.Common.{ℕ, subst}
use Rattle.graphql_grammar.specs.Tree as tree
use Rattle.graphql_nodes.specs.Nodes.{definition_nodes}
use Rattle.juniper_tree.specs.View.{view_word}
use Rattle.juniper_tokens.specs.Spans.{view_span}
use Rattle.firthnapkin_results.proofs.Builders.{adds_more, fragment_text}
use Rattle.firthnapkin_results.proofs.Buildings.{directives_added, set_added}
use Rattle.firthnapkin_results.proofs.builder.building.BuildingBuilderSourceScalar.fragment.Goals as goal

pub returns : goal.returns
unfolding definition_nodes
returns g c first opened with_directives ds set is_open each all =
    let old = c.args.self.now in
    let outliner = g.O.Outliner in
    let span = view_span c.args.span in
    let name = view_word c.args.name.now in
    let condition = view_word c.args.type_condition.now in
    let directives = directives_added opened with_directives _ ds each in
    let selections = set_added outliner.gathers_selection with_directives old _ set all in (
      c.close.ensures first.nodes opened.nodes _ _ (fragment_text name condition) is_open.0
          (adds_more opened.nodes with_directives.nodes old.nodes _ _ directives.0 selections.0),
      subst (λ (at : ℕ). outliner.outlines c.end_fragment.result at (tree.Fragment name condition ds set span))
          is_open.0.index_is
          (c.end_fragment.ensures opened.outlines with_directives.outlines condition ds c.args.selection_set set span
          is_open.1 directives.1 selections.1),
    )
