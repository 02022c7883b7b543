use Rattle.std.proofs.Common.{◌-◌, length}
use Rattle.juniper_values.proofs.BlockRuns.{RunsTo}
use Rattle.juniper_values.proofs.block_string.run.run_length.Given as goal

abbrev pub invariant-by_lanes : goal.invariant-by_lanes
invariant-by_lanes l = RunsTo l.bytes l.i

abbrev pub decreases-by_lanes : goal.decreases-by_lanes
decreases-by_lanes l = length l.bytes - l.i

abbrev pub invariant-loop-i : goal.invariant-loop-i
invariant-loop-i l = RunsTo l.bytes l.i

abbrev pub decreases-loop-i : goal.decreases-loop-i
decreases-loop-i l = length l.bytes - l.i
