use Rattle.std.proofs.Common.{◌≡◌, ◌++◌, map, drop}
use Rattle.juniper_values.specs.Maps.{values_of}
use Rattle.juniper_values.specs.View.{view, view_items}
use Rattle.juniper_values.proofs.input_value.maps.items_alone.Given as goal

abbrev pub invariant-loop-item : goal.invariant-loop-item
invariant-loop-item g l =
    map (λ x. view (λ s. s) x.now) l.values.items ++ values_of (view_items (λ s. s) (drop l.item-index l.item-items))
    ≡ values_of (view_items (λ s. s) l.item-items)
