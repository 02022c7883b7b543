use Rattle.std.proofs.Common.{◌≡◌, ◌+◌, ◌*◌, List, ◌++◌, take, String, Global}
use Rattle.juniper_answers.specs.Copies.{CopiesItems, CopiesFields}
use Rattle.juniper_answers.specs.View.{pairs}
use Rattle.juniper_answers.specs.declared.value.Value.{Value}
use Rattle.juniper_answers.proofs.copy.+copy.Given as goal

abbrev pub invariant-copy_items-loop-item : goal.invariant-copy_items-loop-item
invariant-copy_items-loop-item g l = CopiesItems (λ s t. g.S.ParseScalarValue.content t
    ≡ g.S.ParseScalarValue.content s) (take l.item-index l.item-items) l.copies.items

abbrev pub invariant-copy_object-loop-key : goal.invariant-copy_object-loop-key
invariant-copy_object-loop-key g l =
    (done : List (String Global × Value g.row.S.Denot)) × (pairs l.object ≡ done ++ l.key-iterator)
    × CopiesFields (λ s t. g.S.ParseScalarValue.content t ≡ g.S.ParseScalarValue.content s) done (pairs l.copies)

abbrev pub decreases-copy : goal.decreases-copy
decreases-copy g l = 2 * goal.size-copy g l

abbrev pub decreases-copy_items : goal.decreases-copy_items
decreases-copy_items g l = 2 * goal.size-copy_items g l + 1

abbrev pub decreases-copy_object : goal.decreases-copy_object
decreases-copy_object g l = 2 * goal.size-copy_object g l + 1
