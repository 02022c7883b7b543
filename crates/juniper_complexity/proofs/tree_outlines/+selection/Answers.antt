use Rattle.std.proofs.Common.{arith}
use Rattle.juniper_tree.specs.View.{view_directives, view_selections, view_set}
use Rattle.juniper_complexity.specs.Gathered.{Gathers, counted_directives}
use Rattle.juniper_complexity.specs.Parts.{spreads_of_optional}
use Rattle.juniper_complexity.specs.device.BySpreads.{own_of_optional}
use Rattle.juniper_complexity.proofs.OutlineBuilders.{gathers_field, gathers_inline}
use Rattle.juniper_complexity.proofs.Selecting.{none_inside, some_inside, none_yet, one_more}
use Rattle.juniper_complexity.proofs.tree_outlines.+selection.Goals as goal
use Rattle.juniper_complexity.proofs.tree_outlines.+selection.Goals.{gather_field-in-None}
use Rattle.juniper_complexity.proofs.tree_outlines.+selection.Goals.{gather_field-in-Some+in_ok-gather_selections-in-Some}

pub gather_field-returns : goal.gather_field-returns
gather_field-returns g t c =
    let content = g.S.ParseScalarValue.content in
    let f = c.args.field.now in
    let first = c.args.builder.now in
    let opened = c.enter_field-around.new.self in
    let set = view_set content f.item.selection_set in
    let inner : Gathers opened c.match-field.builder (λ l. own_of_optional l set) (λ l. spreads_of_optional l set) =
    elim c.match-field.branch [
      | gather_field-in-None w ↦ rw w.builder-is (none_inside content f.item.selection_set opened w.in-None.is)
      | gather_field-in-Some+in_ok-gather_selections-in-Some w ↦
          rw w.builder-is (some_inside content f.item.selection_set w.in-Some.selections opened _ w.in-Some.is
          (rw w.deref.ensures.value at w.in_ok-gather_selections-in-Some.ensures))
    ] in
    gathers_field (counted_directives c.count_of.result) (view_directives content f.item.directives) c.count_of.ensures
    first opened c.match-field.builder c.leave_field.new.self c.enter_field-around.result
    _ _ _ set _ c.enter_field-around.ensures.around c.enter_field-around.ensures.opens
    inner c.leave_field.ensures.own c.leave_field.ensures.spreads c.leave_field.ensures.level

pub gather_inline_fragment-returns : goal.gather_inline_fragment-returns
gather_inline_fragment-returns g t c =
    let content = g.S.ParseScalarValue.content in
    let f = c.args.fragment.now in
    gathers_inline (counted_directives c.count_of.result) (view_directives content f.item.directives) c.count_of.ensures
    c.args.builder.now c.gather_selections.new.builder c.count_directives.new.self _
    (view_selections content f.item.selection_set.items) _
    (rw c.deref.ensures.value at c.in_ok-gather_selections.ensures) c.count_directives.ensures.own
    c.count_directives.ensures.spreads c.count_directives.ensures.level

pub gather_selections-loop-selection-init : goal.gather_selections-loop-selection-init
gather_selections-loop-selection-init g t c =
    none_yet g.S.ParseScalarValue.content c.args.builder.now c.args.selections.now

pub gather_selections-loop-selection-preserved : goal.gather_selections-loop-selection-preserved
gather_selections-loop-selection-preserved g t c =
    let l = c.loop-selection in
    one_more g.S.ParseScalarValue.content c.args.builder.now l.builder c.gather_selection.new.builder
    c.args.selections.now l.selection-index c.selection-item.result (omega arith) c.selection-item.is l.invariant
    c.in_ok-gather_selection.ensures
