use Rattle.std.proofs.Common.{◌≡◌, drop}
use Rattle.juniper_values.specs.Equality.{same_items, same_fields}
use Rattle.juniper_values.specs.View.{view_items, view_fields}
use Rattle.juniper_values.proofs.input_value.equal.+equal.Given as goal

abbrev pub invariant-equal_items-loop-i : goal.invariant-equal_items-loop-i
invariant-equal_items-loop-i g l =
    let eq = g.S.PartialEq.eq in
    same_items eq (view_items (λ s. s) l.a.items) (view_items (λ s. s) l.b.items)
    ≡ same_items eq (view_items (λ s. s) (drop l.i l.a.items)) (view_items (λ s. s) (drop l.i l.b.items))

abbrev pub invariant-equal_fields-loop-i : goal.invariant-equal_fields-loop-i
invariant-equal_fields-loop-i g l =
    let eq = g.S.PartialEq.eq in
    same_fields eq (view_fields (λ s. s) l.a.items) (view_fields (λ s. s) l.b.items)
    ≡ same_fields eq (view_fields (λ s. s) (drop l.i l.a.items)) (view_fields (λ s. s) (drop l.i l.b.items))
