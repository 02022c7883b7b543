use Rattle.std.proofs.Common.{rules, arith, refl}
use Rattle.std.proofs.lemmas.Grind.{common_steps}
use Rattle.juniper_values.specs.Variables.{variable_uses, item_uses, field_uses}
use Rattle.juniper_tokens.specs.Spans.{view_span}
use Rattle.juniper_values.specs.View.{view, view_items, view_fields}
use Rattle.juniper_values.proofs.Reading.{gathered, within_most}
use Rattle.juniper_values.proofs.input_value.uses.+uses.Goals as goal
use Rattle.juniper_values.proofs.input_value.InputValue.TheLaws.{the_size}
use Rattle.juniper_values.specs.declared.input_value.InputValue.TheShapes.{weighed-InputValue-Object-0-at-4}

pub note_field_uses-note_uses-requires :
    goal.note_field_uses-note_uses-requires
note_field_uses-note_uses-requires g t c κs within =
    let x = c.field-item.result in
    let h = within_most ((weighed-InputValue-Object-0-at-4 g.row.S.Denot).weight _ (the_size g.row.S g.S.laws))
    c.args.fields.now.items c.loop-field.field-index x
    (rw c.deref-field-items.ensures.value at c.loop-field-test.true)
    (rw c.deref-field-items.ensures.value at c.field-item.is) in
    let d = c.decreases in
    (omega (arith, h, d), search rules)

pub note_field_uses-loop-field-preserved : goal.note_field_uses-loop-field-preserved
note_field_uses-loop-field-preserved g t c =
    gathered (λ fs. field_uses (view_fields (λ s. s) fs))
    (λ x. variable_uses (view_span x.1.span) (view (λ s. s) x.1.item)) (λ x xs. refl)
    c.deref-field-items.result.now c.loop-field.field-index c.field-item.result c.loop-field-test.true c.field-item.is _
    _ _
    c.loop-field.invariant c.in_ok-note_uses.ensures

pub note_item_uses-loop-item-preserved : goal.note_item_uses-loop-item-preserved
note_item_uses-loop-item-preserved g t c =
    gathered (λ is. item_uses (view_items (λ s. s) is))
    (λ x. variable_uses (view_span x.span) (view (λ s. s) x.item)) (λ x xs. refl)
    c.deref-item-items.result.now c.loop-item.item-index c.item-item.result c.loop-item-test.true c.item-item.is _ _ _
    c.loop-item.invariant c.in_ok-note_uses.ensures

pub note_item_uses-returns : goal.note_item_uses-returns
note_item_uses-returns g t c = grind (arith, common_steps)

pub note_field_uses-returns : goal.note_field_uses-returns
note_field_uses-returns g t c = grind (arith, common_steps)
