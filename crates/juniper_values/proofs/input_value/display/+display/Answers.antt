use Rattle.std.proofs.Common.{rules, ◌≡◌, refl, sym, ap, arith}
use Rattle.std.specs.Prelude.{codes}
use Rattle.std.proofs.Output.{has_written_of_eq}
use lib.Utf8.{encodes}
use Rattle.juniper_values.specs.Display.{value_text}
use Rattle.juniper_values.specs.ScalarDisplay.{scalar_display}
use Rattle.graphql_grammar.specs.Tree.{Scalar, Enum}
use Rattle.juniper_values.specs.View.{view, text_of}
use Rattle.juniper_values.proofs.Displays.{next_written, all_written, key_and_value, between}
use Rattle.juniper_values.proofs.Reading.{within_most}
use Rattle.juniper_values.proofs.ValueTexts.{list_text, object_text, item_next, no_item, field_next, no_field}
use Rattle.juniper_values.proofs.input_value.display.+display.Goals as goal
use Rattle.juniper_values.proofs.input_value.InputValue.TheLaws.{the_size}
use Rattle.juniper_values.specs.declared.input_value.InputValue.{the_lemmas}
use Rattle.juniper_values.specs.declared.input_value.InputValue.TheShapes.{weighed-InputValue-Object-0-at-4}

pub write_items-loop-item-preserved : goal.write_items-loop-item-preserved
write_items-loop-item-preserved g t c =
    next_written c.loop-item.invariant (item_next _ _ _ _ c.loop-item-test.true c.item-item.is)
    (λ q. c.in_ok-write_separator.ensures q refl) (λ q. c.in_ok-write_value.ensures q refl)

pub write_items-returns : goal.write_items-returns
write_items-returns g t c p ok =
    rw (← c.deref-item-items.ensures.value) (all_written c.loop-item.invariant
    (no_item _ c.deref-item-items.result.now c.loop-item.item-index (omega arith)) p)

pub write_fields-loop-field-preserved : goal.write_fields-loop-field-preserved
write_fields-loop-field-preserved g t c =
    next_written c.loop-field.invariant (field_next _ _ _ _ c.loop-field-test.true c.field-item.is)
    (λ q. c.in_ok-write_separator.ensures q refl)
    (key_and_value (text_of c.field-item.result.0.item) (codes ": ") _
    (λ q. c.in_ok-write_key.ensures q refl) (λ q. c.in_ok-write_value.ensures q refl))

pub write_fields-returns : goal.write_fields-returns
write_fields-returns g t c p ok =
    rw (← c.deref-field-items.ensures.value) (all_written c.loop-field.invariant
    (no_field _ c.deref-field-items.result.now c.loop-field.field-index (omega arith)) p)

pub write_value-returns-in_ok-write_items-in-List :
    goal.write_value-returns-in_ok-write_items-in-List
write_value-returns-in_ok-write_items-in-List g t c p ok =
    between 91 93 _ (omega arith) (omega arith) (list_text _ _ _ c.in-List.is)
    (λ q. c.in_ok-write_str-in-List.ensures.writes q refl) (λ q. c.in_ok-write_items-in-List.ensures q refl)
    (λ q. c.write_str-in-List-2.ensures.writes q ok) p

pub write_value-returns-in_ok-write_fields-in-Object :
    goal.write_value-returns-in_ok-write_fields-in-Object
write_value-returns-in_ok-write_fields-in-Object g t c p ok =
    between 123 125 _ (omega arith) (omega arith) (object_text _ _ _ c.in-Object.is)
    (λ q. c.in_ok-write_str-in-Object.ensures.writes q refl) (λ q. c.in_ok-write_fields-in-Object.ensures q refl)
    (λ q. c.write_str-in-Object-2.ensures.writes q ok) p

pub write_fields-write_value-requires : goal.write_fields-write_value-requires
write_fields-write_value-requires g t c κs within =
    let h = within_most ((weighed-InputValue-Object-0-at-4 g.row.S.Denot).weight _ (the_size g.row.S g.S.laws))
    c.args.fields.now.items c.loop-field.field-index c.field-item.result
    (rw c.deref-field-items.ensures.value at c.loop-field-test.true)
    (rw c.deref-field-items.ensures.value at c.field-item.is) in
    let d = c.decreases in
    (omega (arith, h, d), search rules)

pub write_value-returns-in-Scalar : goal.write_value-returns-in-Scalar
write_value-returns-in-Scalar g t c p ok =
    let shown = scalar_display g.S.ParseScalarValue.content g.S.ScalarValue.str_in g.S.ScalarValue.shown in
    let seen : view (λ s. s) c.args.value.now ≡ Scalar c.in-Scalar.scalar = search (rules, the_lemmas, c.in-Scalar.is) in
    has_written_of_eq _ _ _ _ _ (ap (λ v. encodes (value_text shown v)) (sym seen)) (c.write_scalar.ensures p ok)

pub write_value-returns-in-Enum : goal.write_value-returns-in-Enum
write_value-returns-in-Enum g t c p ok =
    let shown = scalar_display g.S.ParseScalarValue.content g.S.ScalarValue.str_in g.S.ScalarValue.shown in
    let seen : view (λ s. s) c.args.value.now ≡ Enum (text_of c.in-Enum.name) = search (rules, the_lemmas, c.in-Enum.is) in
    rw (seen, ← c.as_str.ensures.value) (c.write_text.ensures p ok)
