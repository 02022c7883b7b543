use Rattle.std.proofs.Common.{arith}
use Rattle.graphql_nodes.specs.Nodes.{selection_nodes, selections_nodes, optional_nodes}
use Rattle.juniper_tree.specs.View.{view_selection}
use Rattle.juniper_tokens.specs.Spans.{view_span}
use Rattle.juniper_nodes.proofs.Growth.{grown, grown_none, closed, grown_on_error}
use Rattle.juniper_nodes.proofs.Places.{place_held, kept_on_error}
use Rattle.juniper_nodes.proofs.Rows.{no_part_yet, next_part, no_part}
use Rattle.juniper_nodes.proofs.SelectionNodes.{field_alone, field_above, selections_in_row}
use Rattle.juniper_nodes.proofs.nodes.selection.+selection.Goals as goal

pub push_selection-returns-in-Field : goal.push_selection-returns-in-Field
push_selection-returns-in-Field g t c =
    rw (c.in-Field.is, c.selections_are_seen.ensures.field c.in-Field.field) c.push_field.ensures

pub push_selection-returns-in-FragmentSpread : goal.push_selection-returns-in-FragmentSpread
push_selection-returns-in-FragmentSpread g t c = rw c.in-FragmentSpread.is c.push_spread.ensures

pub push_selection-returns-in-InlineFragment : goal.push_selection-returns-in-InlineFragment
push_selection-returns-in-InlineFragment g t c =
    let fragment = c.in-InlineFragment.fragment in
    rw (c.in-InlineFragment.is, c.selections_are_seen.ensures.inline_fragment fragment) c.push_inline.ensures

pub push_field-returns-in-None : goal.push_field-returns-in-None
push_field-returns-in-None g t c =
    let content = g.S.ParseScalarValue.content in
    let parts = grown content c.in_ok-push_directives.ensures (grown_none content _) in
    let all = grown content c.in_ok-push_alias.ensures (grown content c.in_ok-push_optional_arguments.ensures parts) in
    rw (field_alone content c.args.field.now c.in-None.is)
    (closed content c.in_ok-place.ensures.opened all c.close.ensures)

pub push_field-returns-in_ok-push_selections-in-Some : goal.push_field-returns-in_ok-push_selections-in-Some
push_field-returns-in_ok-push_selections-in-Some g t c =
    let content = g.S.ParseScalarValue.content in
    let parts = grown content c.in_ok-push_directives.ensures c.in_ok-push_selections-in-Some.ensures in
    let all = grown content c.in_ok-push_alias.ensures (grown content c.in_ok-push_optional_arguments.ensures parts) in
    rw (field_above content c.args.field.now c.in-Some.selections c.in-Some.is, ← c.deref.ensures.value)
    (closed content c.in_ok-place.ensures.opened all c.close-in-Some.ensures)

pub push_inline-returns : goal.push_inline-returns
unfolding selection_nodes selections_nodes optional_nodes
push_inline-returns g t c =
    let content = g.S.ParseScalarValue.content in
    let parts = grown content c.in_ok-push_directives.ensures c.in_ok-push_selections.ensures in
    rw (← c.deref.ensures.value, ← c.label_of-condition.ensures (view_span c.args.fragment.now.span))
    (closed content c.in_ok-place.ensures.opened parts c.close.ensures)

pub push_selections-loop-selection-init : goal.push_selections-loop-selection-init
push_selections-loop-selection-init g t c = no_part_yet g.S.ParseScalarValue.content selection_nodes
    (view_selection g.S.ParseScalarValue.content) c.args.nodes.now c.args.selections.now

pub push_selections-loop-selection-preserved : goal.push_selections-loop-selection-preserved
push_selections-loop-selection-preserved g t c =
    let content = g.S.ParseScalarValue.content in
    let l = c.loop-selection in
    let xs = c.args.selections.now in
    let x = c.selection-item in
    let view = view_selection content in
    next_part content selection_nodes view c.args.nodes.now l.nodes _ xs l.selection-index x.result (omega arith) x.is
    l.invariant c.in_ok-push_selection.ensures

pub push_selections-returns : goal.push_selections-returns
push_selections-returns g t c =
    let content = g.S.ParseScalarValue.content in
    let l = c.loop-selection in
    let xs = c.args.selections.now in
    let view = view_selection content in
    rw (selections_in_row content xs)
    (no_part content selection_nodes view c.args.nodes.now l.nodes xs l.selection-index (omega arith) l.invariant)

pub push_field-returns-in_err-push_alias : goal.push_field-returns-in_err-push_alias
push_field-returns-in_err-push_alias g t c =
    let content = g.S.ParseScalarValue.content in
    let before = c.in_ok-place.ensures.opened.1 in
    grown_on_error content _ _ c.from_residual-in_err-push_alias.ensures.0 before c.in_err-push_alias.ensures

pub push_field-returns-in_err-push_optional_arguments : goal.push_field-returns-in_err-push_optional_arguments
push_field-returns-in_err-push_optional_arguments g t c =
    let content = g.S.ParseScalarValue.content in
    let before = grown content c.in_ok-place.ensures.opened.1 c.in_ok-push_alias.ensures in
    grown_on_error content _ _ c.from_residual-in_err-push_optional_arguments.ensures.0 before
    c.in_err-push_optional_arguments.ensures

pub push_field-returns-in_err-push_directives : goal.push_field-returns-in_err-push_directives
push_field-returns-in_err-push_directives g t c =
    let content = g.S.ParseScalarValue.content in
    let before = grown content c.in_ok-place.ensures.opened.1
    (grown content c.in_ok-push_alias.ensures c.in_ok-push_optional_arguments.ensures) in
    grown_on_error content _ _ c.from_residual-in_err-push_directives.ensures.0 before c.in_err-push_directives.ensures

pub push_field-returns-in_err-push_selections-in-Some : goal.push_field-returns-in_err-push_selections-in-Some
push_field-returns-in_err-push_selections-in-Some g t c =
    let content = g.S.ParseScalarValue.content in
    let before = grown content c.in_ok-place.ensures.opened.1
    (grown content c.in_ok-push_alias.ensures
    (grown content c.in_ok-push_optional_arguments.ensures c.in_ok-push_directives.ensures)) in
    grown_on_error content _ _ c.from_residual-in_err-push_selections-in-Some.ensures.0 before
    c.in_err-push_selections-in-Some.ensures

pub push_inline-returns-in_err-push_directives : goal.push_inline-returns-in_err-push_directives
push_inline-returns-in_err-push_directives g t c =
    let content = g.S.ParseScalarValue.content in
    let before = c.in_ok-place.ensures.opened.1 in
    grown_on_error content _ _ c.from_residual-in_err-push_directives.ensures.0 before c.in_err-push_directives.ensures

pub push_inline-returns-in_err-push_selections : goal.push_inline-returns-in_err-push_selections
push_inline-returns-in_err-push_selections g t c =
    let content = g.S.ParseScalarValue.content in
    let before = grown content c.in_ok-place.ensures.opened.1 c.in_ok-push_directives.ensures in
    grown_on_error content _ _ c.from_residual-in_err-push_selections.ensures.0 before c.in_err-push_selections.ensures

pub push_selections-returns-in_err-push_selection : goal.push_selections-returns-in_err-push_selection
push_selections-returns-in_err-push_selection g t c =
    let content = g.S.ParseScalarValue.content in
    grown_on_error content _ _ c.from_residual.ensures.0 c.loop-selection.invariant c.in_err-push_selection.ensures

pub push_field-close-requires : goal.push_field-close-requires
push_field-close-requires g t c =
    let content = g.S.ParseScalarValue.content in
    let parts = grown content c.in_ok-push_optional_arguments.ensures c.in_ok-push_directives.ensures in
    place_held content c.in_ok-place.ensures.opened (grown content c.in_ok-push_alias.ensures parts)

pub push_field-close-requires-in-Some : goal.push_field-close-requires-in-Some
push_field-close-requires-in-Some g t c =
    let content = g.S.ParseScalarValue.content in
    let parts = grown content c.in_ok-push_directives.ensures c.in_ok-push_selections-in-Some.ensures in
    let all = grown content c.in_ok-push_alias.ensures (grown content c.in_ok-push_optional_arguments.ensures parts) in
    place_held content c.in_ok-place.ensures.opened all

pub push_field-returns-in_err-place : goal.push_field-returns-in_err-place
push_field-returns-in_err-place g t c =
    kept_on_error g.S.ParseScalarValue.content _ _ c.from_residual.ensures.0 c.in_err-place.ensures.kept

pub push_inline-close-requires : goal.push_inline-close-requires
push_inline-close-requires g t c =
    let content = g.S.ParseScalarValue.content in
    place_held content c.in_ok-place.ensures.opened
    (grown content c.in_ok-push_directives.ensures c.in_ok-push_selections.ensures)

pub push_inline-returns-in_err-place : goal.push_inline-returns-in_err-place
push_inline-returns-in_err-place g t c =
    kept_on_error g.S.ParseScalarValue.content _ _ c.from_residual.ensures.0 c.in_err-place.ensures.kept
