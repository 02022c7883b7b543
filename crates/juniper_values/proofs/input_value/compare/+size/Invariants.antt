use Rattle.std.proofs.Common.{◌≡◌, ◌+◌, ◌<◌, drop}
use Rattle.std.specs.Prelude.{◌^◌}
use Rattle.juniper_values.specs.View.{view_items, view_fields}
use Rattle.juniper_values.specs.device.Sizes.{item_count, held_count, saturated}
use Rattle.juniper_values.proofs.input_value.compare.+size.Given as goal

abbrev pub invariant-size_of_items-loop-item : goal.invariant-size_of_items-loop-item
invariant-size_of_items-loop-item g l =
    (l.sum < 2 ^ 64) × (saturated (1 + item_count (view_items (λ s. s) l.items.items))
    ≡ saturated (l.sum + item_count (view_items (λ s. s) (drop l.item-index l.item-items))))

abbrev pub invariant-size_of_fields-loop-field : goal.invariant-size_of_fields-loop-field
invariant-size_of_fields-loop-field g l =
    (l.sum < 2 ^ 64) × (saturated (1 + held_count (view_fields (λ s. s) l.fields.items))
    ≡ saturated (l.sum + held_count (view_fields (λ s. s) (drop l.field-index l.field-items))))
