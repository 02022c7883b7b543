use Rattle.std.proofs.Common.{◌-◌}
use Rattle.juniper_tokens.proofs.Lines.{Narrowed}
use Rattle.juniper_tokens.proofs.line.line_of.Given as goal

abbrev pub invariant-loop-high : goal.invariant-loop-high
invariant-loop-high l = Narrowed l.fn.starts l.fn.index l.low l.high

abbrev pub decreases-loop-high : goal.decreases-loop-high
decreases-loop-high l = l.high - l.low
