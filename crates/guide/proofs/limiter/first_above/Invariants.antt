-- None of the operations so far has more fields.
use Rattle.std.proofs.Common.{◌≡◌, ◌<◌, ◌≤◌, ℕ, Some, slice_get}
use Rattle.juniper_outlines.specs.declared.operations.OperationComplexity.{OperationComplexity}
use Rattle.guide.proofs.limiter.first_above.Given as goal

abbrev pub invariant-loop-i : goal.invariant-loop-i
invariant-loop-i l = (k : ℕ) (c : OperationComplexity) → k < l.i → slice_get l.complexities k ≡ Some c
    → c.complexity.fields ≤ l.most
