use Rattle.std.proofs.Common.{◌++◌, subst, sym}
use Rattle.std.specs.Prelude.{option_map}
use Rattle.graphql_nodes.specs.Nodes.{Label, over, directives_nodes, selection_nodes, selections_nodes, optional_nodes}
use Rattle.graphql_nodes.specs.declared.kind.NodeKind.TheVariants as kind
use Rattle.juniper_tree.specs.View.{view_word}
use Rattle.juniper_complexity.specs.Gathered.{KeepsDirectives}
use Rattle.juniper_tokens.specs.Spans.{view_span}
use Rattle.firthnapkin_results.specs.Builders.{Adds, HasNoText}
use Rattle.firthnapkin_results.proofs.Builders.{adds_more, optional_name_text}
use Rattle.firthnapkin_results.proofs.Buildings.{directives_added, set_added}
use Rattle.firthnapkin_results.proofs.builder.building.BuildingBuilderSourceScalar.inline_fragment.Goals as goal

pub returns : goal.returns
unfolding selection_nodes selections_nodes optional_nodes
returns g c first opened with_directives ds set is_open each all =
    let old = c.args.self.now in
    let span = view_span c.args.span in
    let name = option_map view_word c.args.type_condition.now in
    let tells = c.label_of.ensures span in
    let inner = directives_nodes ds ++ selections_nodes set in
    let directives = directives_added opened with_directives _ ds each in
    let selections = set_added g.O.Outliner.gathers_selection with_directives old _ set all in (
      subst (λ (label : Label). Adds first.nodes c.close.new.self (over kind.InlineFragment span label inner)) tells
          (c.close.ensures first.nodes opened.nodes _ _ (subst HasNoText (sym tells) (optional_name_text name))
          is_open.0 (adds_more opened.nodes with_directives.nodes old.nodes _ _ directives.0 selections.0)),
      c.end_inline_fragment.ensures first.outlines with_directives.outlines name ds c.args.selection_set set span
          (subst (λ o. KeepsDirectives o with_directives.outlines c.args.directives ds) (sym is_open.1) directives.1)
          selections.1,
    )
