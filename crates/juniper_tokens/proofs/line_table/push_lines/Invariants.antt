use Rattle.std.proofs.Common.{length, ◌-◌, ◌≤◌, ◌+◌}
use Rattle.juniper_tokens.specs.device.ByteRuns.{Walked}
use Rattle.juniper_tokens.specs.device.Walks.{each_machine}
use Rattle.juniper_tokens.specs.device.LineSteps.{made_table, past}
use Rattle.juniper_tokens.proofs.line_table.push_lines.Given as goal

abbrev pub invariant-loop-i : goal.invariant-loop-i
invariant-loop-i l =
    Walked (each_machine past) (tt, made_table l.fn.starts.items l.fn.count) l.bytes l.i (tt, made_table l.starts.items l.after)
    × (l.after ≤ l.fn.count + l.i)

abbrev pub decreases-loop-i : goal.decreases-loop-i
decreases-loop-i l = length l.bytes - l.i
