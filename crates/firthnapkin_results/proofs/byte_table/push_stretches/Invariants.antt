-- The starts so far are those of the characters that begin in the stretches so far.
use Rattle.std.proofs.Common.{◌-◌, ◌≤◌, length}
use Rattle.firthnapkin_results.specs.ByteTables.{HasStarts}
use Rattle.firthnapkin_results.proofs.byte_table.push_stretches.Given as goal

abbrev pub invariant-loop-at : goal.invariant-loop-at
invariant-loop-at l = record {
  within : l.at ≤ length l.bytes;
  begun : HasStarts l.bytes l.at l.starts;
}

abbrev pub decreases-loop-at : goal.decreases-loop-at
decreases-loop-at l = length l.bytes - l.at
