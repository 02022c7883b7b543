-- The complexities so far are those of the operations so far.
use Rattle.std.proofs.Common.{◌≡◌, take}
use Rattle.juniper_outlines.specs.Definitions.{own_complexities}
use Rattle.juniper_outlines.proofs.operations.own_complexities.Given as goal

abbrev pub invariant-loop-i : goal.invariant-loop-i
invariant-loop-i l = l.complexities.items ≡ own_complexities 0 (take l.i l.definitions)
