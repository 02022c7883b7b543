use Rattle.std.proofs.Common.{◌≡◌, ◌++◌, map, drop}
use Rattle.juniper_values.specs.Variables.{item_uses, field_uses}
use Rattle.juniper_values.specs.View.{view_items, view_fields, view_name}
use Rattle.juniper_values.proofs.input_value.uses.+uses.Given as goal

abbrev pub invariant-note_field_uses-loop-field : goal.invariant-note_field_uses-loop-field
invariant-note_field_uses-loop-field g l =
    map view_name l.uses.items ++ field_uses (view_fields (λ s. s) (drop l.field-index l.field-items))
    ≡ map view_name l.initial.uses.items ++ field_uses (view_fields (λ s. s) l.field-items)

abbrev pub invariant-note_item_uses-loop-item : goal.invariant-note_item_uses-loop-item
invariant-note_item_uses-loop-item g l =
    map view_name l.uses.items ++ item_uses (view_items (λ s. s) (drop l.item-index l.item-items))
    ≡ map view_name l.initial.uses.items ++ item_uses (view_items (λ s. s) l.item-items)
