use Rattle.std.proofs.Common.{◌≡◌, ◌++◌, map, drop}
use Rattle.std.specs.Str.{chars}
use Rattle.juniper_values.specs.Variables.{item_variables, field_variables}
use Rattle.juniper_values.specs.View.{view_items, view_fields}
use Rattle.juniper_values.proofs.input_value.variables.+variables.Given as goal

abbrev pub invariant-note_field_variables-loop-field :
    goal.invariant-note_field_variables-loop-field
invariant-note_field_variables-loop-field g l =
    map (λ s. chars s.now) l.names.items ++ field_variables (view_fields (λ s. s) (drop l.field-index l.field-items))
    ≡ map (λ s. chars s.now) l.initial.names.items ++ field_variables (view_fields (λ s. s) l.field-items)

abbrev pub invariant-note_item_variables-loop-item : goal.invariant-note_item_variables-loop-item
invariant-note_item_variables-loop-item g l =
    map (λ s. chars s.now) l.names.items ++ item_variables (view_items (λ s. s) (drop l.item-index l.item-items))
    ≡ map (λ s. chars s.now) l.initial.names.items ++ item_variables (view_items (λ s. s) l.item-items)
