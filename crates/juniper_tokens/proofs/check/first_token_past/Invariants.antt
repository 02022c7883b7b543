use Rattle.std.specs.Str.{chars}
use Rattle.juniper_tokens.specs.Lexing.{started, items_left}
use Rattle.juniper_tokens.proofs.Checking.{Passes}
use Rattle.juniper_tokens.proofs.check.first_token_past.Given as goal

abbrev pub invariant-loop-range : goal.invariant-loop-range
invariant-loop-range l = Passes (started (chars l.source)) l.lexer l.count l.most

abbrev pub decreases-loop-range : goal.decreases-loop-range
decreases-loop-range l = items_left l.lexer
