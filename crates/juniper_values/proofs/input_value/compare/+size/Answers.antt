use Rattle.std.proofs.Common.{◌∙◌, ◌+◌, ap, sym, arith, drop}
use Rattle.std.proofs.lemmas.List.{at_drop_all}
use Rattle.juniper_values.specs.View.{view, view_items, view_fields}
use Rattle.juniper_values.specs.device.Sizes.{value_count, item_count, held_count, saturated}
use Rattle.juniper_values.proofs.Reading.{drop_read}
use Rattle.juniper_values.proofs.Counts.{count_more, counted_all}
use Rattle.juniper_values.proofs.input_value.compare.+size.Goals as goal

pub size_of_items-loop-item-preserved : goal.size_of_items-loop-item-preserved
size_of_items-loop-item-preserved g t c =
    let x = c.item-item.result in (
      omega (arith, c.saturating_add-sum.ensures),
      c.loop-item.invariant.1
          ∙ ap (λ xs. saturated (c.loop-item.sum + item_count (view_items (λ s. s) xs)))
          (drop_read c.deref-item-items.result.now c.loop-item.item-index x c.loop-item-test.true c.item-item.is)
          ∙ count_more c.loop-item.sum (value_count (view (λ s. s) x.item)) c.size.result c.saturating_add-sum.result
          (item_count (view_items (λ s. s) (drop (c.loop-item.item-index + 1) c.deref-item-items.result.now))) c.size.ensures c.saturating_add-sum.ensures,
    )

pub size_of_items-returns : goal.size_of_items-returns
size_of_items-returns g t c =
    sym (c.loop-item.invariant.1
    ∙ at_drop_all (λ xs. saturated (c.loop-item.sum + item_count (view_items (λ s. s) xs))) c.deref-item-items.result.now c.loop-item.item-index
    (omega (arith, c.loop-item-test.false)) ∙ counted_all c.loop-item.sum c.loop-item.invariant.0)

pub size_of_fields-loop-field-preserved : goal.size_of_fields-loop-field-preserved
size_of_fields-loop-field-preserved g t c =
    let x = c.field-item.result in (
      omega (arith, c.saturating_add-sum.ensures),
      c.loop-field.invariant.1
          ∙ ap (λ xs. saturated (c.loop-field.sum + held_count (view_fields (λ s. s) xs)))
          (drop_read c.deref-field-items.result.now c.loop-field.field-index x c.loop-field-test.true c.field-item.is)
          ∙ count_more c.loop-field.sum (value_count (view (λ s. s) x.1.item)) c.size.result c.saturating_add-sum.result
          (held_count (view_fields (λ s. s) (drop (c.loop-field.field-index + 1) c.deref-field-items.result.now))) c.size.ensures c.saturating_add-sum.ensures,
    )

pub size_of_fields-returns : goal.size_of_fields-returns
size_of_fields-returns g t c =
    sym (c.loop-field.invariant.1
    ∙ at_drop_all (λ xs. saturated (c.loop-field.sum + held_count (view_fields (λ s. s) xs))) c.deref-field-items.result.now c.loop-field.field-index
    (omega (arith, c.loop-field-test.false)) ∙ counted_all c.loop-field.sum c.loop-field.invariant.0)
