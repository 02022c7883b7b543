use Rattle.std.proofs.Common.{sym, ◌∙◌, arith, append-nil}
use Rattle.std.proofs.lemmas.List.{drop_all, drop_more}
use Rattle.std.proofs.lemmas.Result.{on_ok_weaker}
use Rattle.guide.specs.Fields.{texts, fields_of, fields_within, fields_among}
use Rattle.guide.proofs.NamesOfFields.{grown, noted, field_alone, field_above, inline_above, next_selection, no_selection}
use Rattle.guide.proofs.walk.+fields.Goals as goal

pub note_selection-returns-in-Field : goal.note_selection-returns-in-Field
note_selection-returns-in-Field g t c =
    rw (c.in-Field.is, c.selections_are_seen.ensures.field c.in-Field.field) c.note_field.ensures

pub note_selection-returns-in-FragmentSpread : goal.note_selection-returns-in-FragmentSpread
unfolding fields_of fields_within fields_among
note_selection-returns-in-FragmentSpread g t c =
    rw c.in-FragmentSpread.is (sym (append-nil (texts c.args.names.now.items)))

pub note_selection-returns-in-InlineFragment : goal.note_selection-returns-in-InlineFragment
note_selection-returns-in-InlineFragment g t c =
    rw (
      c.in-InlineFragment.is,
      inline_above g.S.ParseScalarValue.content c.selections_are_seen.ensures
          c.in-InlineFragment.inline,
      ← c.deref.ensures.value,
    ) c.note_fields.ensures

pub note_field-returns-in-None : goal.note_field-returns-in-None
note_field-returns-in-None g t c = rw (field_alone g.S.ParseScalarValue.content c.args.field.now c.in-None.is)
    (noted c.args.names.now.items c.push.new.self.items c.args.field.now.item.name.item c.in_ok-push.ensures.items)

pub note_field-returns-in-Some : goal.note_field-returns-in-Some
note_field-returns-in-Some g t c =
    rw (field_above g.S.ParseScalarValue.content c.args.field.now c.in-Some.inner c.in-Some.is, ← c.deref.ensures.value)
    (on_ok_weaker c.note_fields.result (λ e. grown _ _ _ _ _ (noted c.args.names.now.items c.push.new.self.items
    c.args.field.now.item.name.item c.in_ok-push.ensures.items) e) c.note_fields.ensures)

pub note_fields-loop-selection-preserved : goal.note_fields-loop-selection-preserved
note_fields-loop-selection-preserved g t c =
    let l = c.loop-selection in
    let xs = c.args.selections.now in
    let x = c.selection-item.result in
    let here = rw (← c.selection-item.is) at (drop_more xs l.selection-index x (omega arith)) in
    l.invariant ∙ next_selection g.S.ParseScalarValue.content _ _ x _ _ here c.in_ok-note_selection.ensures

pub note_fields-returns : goal.note_fields-returns
note_fields-returns g t c =
    let l = c.loop-selection in
    sym (l.invariant ∙ no_selection g.S.ParseScalarValue.content _ _
    (drop_all l.selection-index c.args.selections.now (omega arith)))
