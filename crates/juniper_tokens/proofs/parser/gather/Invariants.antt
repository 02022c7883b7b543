use Rattle.std.specs.Prelude.{◌≡◌, ◌≤◌, false, length}
use Rattle.juniper_tokens.specs.Lexing.{items_left}
use Rattle.juniper_tokens.specs.device.LineSteps.{HasLines}
use Rattle.juniper_tokens.proofs.Gathering.{GatheredRanges}
use Rattle.juniper_tokens.proofs.parser.gather.Given as goal

abbrev pub invariant-loop-range : goal.invariant-loop-range
invariant-loop-range l = record {
  gathered : GatheredRanges l.fn.lexer l.ranges.items l.lexer;
  going : l.lexer.ended ≡ false;
  lines : HasLines l.lexer.source l.lines l.lexer.index;
  few : length l.ranges.items ≤ l.fn.most;
}

abbrev pub decreases-loop-range : goal.decreases-loop-range
decreases-loop-range l = items_left l.lexer
