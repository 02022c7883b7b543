-- No operation so far has a spread.
use Rattle.std.proofs.Common.{◌≡◌, ◌<◌, ℕ, [], Some, None}
use Rattle.std.specs.List.{slice_get}
use Rattle.juniper_outlines.specs.declared.outline.DefinitionOutline.{DefinitionOutline}
use Rattle.juniper_outlines.proofs.operations.have_no_spreads.Given as goal

abbrev pub invariant-loop-i : goal.invariant-loop-i
invariant-loop-i l = record {
  so_far : (j : ℕ) (o : DefinitionOutline) → slice_get l.definitions j ≡ Some o → j < l.i → o.fragment ≡ None
      → o.spreads.items ≡ [];
}
