use Rattle.std.proofs.Common.{subst, sym}
use Rattle.std.specs.Prelude.{option_map}
use Rattle.graphql_nodes.specs.Nodes.{arguments_nodes, selection_nodes, selections_nodes, optional_nodes}
use Rattle.juniper_tree.specs.View.{view_word}
use Rattle.juniper_complexity.specs.Gathered.{Keeps, KeepsDirectives}
use Rattle.juniper_complexity.proofs.Public.{kept_optional}
use Rattle.juniper_tokens.specs.Spans.{view_span}
use Rattle.firthnapkin_results.proofs.Builders.{adds_more, named_text}
use Rattle.firthnapkin_results.proofs.Buildings.{directives_added, optional_added, optional_set_added}
use Rattle.firthnapkin_results.proofs.builder.building.BuildingBuilderSourceScalar.field.Goals as goal

pub returns : goal.returns
unfolding selection_nodes selections_nodes optional_nodes
returns g c first opened with_arguments with_directives xs ds set is_open some each all =
    let old = c.args.self.now in
    let alias = option_map view_word c.args.alias.now in
    let name = view_word c.args.name.now in
    let arguments = optional_added arguments_nodes Keeps opened with_arguments _ xs some in
    let directives = directives_added with_arguments with_directives _ ds each in
    let selections = optional_set_added g.O.Outliner.gathers_selection with_directives old _ set all in
    let kept = kept_optional opened.outlines with_arguments.outlines _ xs arguments.1 in (
      c.close.ensures first.nodes opened.nodes _ _ (named_text name) is_open.0
          (adds_more opened.nodes with_arguments.nodes old.nodes _ _ arguments.0
          (adds_more with_arguments.nodes with_directives.nodes old.nodes _ _ directives.0 selections.0)),
      c.leave_field.ensures first.outlines opened.outlines with_directives.outlines alias name xs ds
          c.args.selection_set set (view_span c.args.span) is_open.1
          (subst (λ o. KeepsDirectives o with_directives.outlines c.args.directives ds) (sym kept) directives.1)
          selections.1,
    )
