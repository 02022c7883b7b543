-- The states so far are those of the definitions so far.
use Rattle.std.proofs.Common.{◌≡◌, map, take}
use Rattle.juniper_outlines.specs.device.Walk.{first_state}
use Rattle.juniper_outlines.proofs.operations.first_states.Given as goal

abbrev pub invariant-loop-i : goal.invariant-loop-i
invariant-loop-i l = l.states.items ≡ map first_state (take l.i l.definitions)
