-- The buffer is filled with the tokens so far, and there are no more of them than that.
use Rattle.std.proofs.Common.{◌-◌, ◌≤◌}
use Rattle.std.specs.Str.{chars}
use Rattle.firthnapkin_results.proofs.HeldTokens.{Held}
use Rattle.firthnapkin_results.proofs.tokens.tokens_of_text.Given as goal

abbrev pub invariant-loop-token : goal.invariant-loop-token
invariant-loop-token l = record {
  held : Held (chars l.fn.text) l.fn.buffer l.lexer l.buffer l.count;
  few : l.count ≤ l.fn.most;
}

abbrev pub decreases-loop-token : goal.decreases-loop-token
decreases-loop-token l = l.fn.most - l.count
