use Rattle.std.proofs.Common.{drop}
use Rattle.juniper_values.specs.ScalarDisplay.{scalar_display}
use Rattle.juniper_values.proofs.Displays.{TextsLeft}
use Rattle.juniper_values.proofs.ValueTexts.{texts_of_items, texts_of_fields}
use Rattle.juniper_values.proofs.input_value.display.+display.Given as goal

abbrev pub invariant-write_items-loop-item : goal.invariant-write_items-loop-item
invariant-write_items-loop-item g l =
    let shown = scalar_display g.S.ParseScalarValue.content g.S.ScalarValue.str_in g.S.ScalarValue.shown in
    TextsLeft g.W.Write.write_str_gives l.initial.f (texts_of_items shown l.item-items) l.first
    (texts_of_items shown (drop l.item-index l.item-items)) l.f

abbrev pub invariant-write_fields-loop-field : goal.invariant-write_fields-loop-field
invariant-write_fields-loop-field g l =
    let shown = scalar_display g.S.ParseScalarValue.content g.S.ScalarValue.str_in g.S.ScalarValue.shown in
    TextsLeft g.W.Write.write_str_gives l.initial.f (texts_of_fields shown l.field-items) l.first
    (texts_of_fields shown (drop l.field-index l.field-items)) l.f
