use Rattle.std.proofs.Common.{◌-◌}
use Rattle.std.specs.Str.{chars}
use Rattle.juniper_tokens.proofs.Counts.{Counted}
use Rattle.juniper_tokens.proofs.lexer.text.count_alphanumerics.Given as goal

abbrev pub invariant-loop-count : goal.invariant-loop-count
invariant-loop-count l = Counted (chars l.text) l.count

abbrev pub decreases-loop-count : goal.decreases-loop-count
decreases-loop-count l = 4 - l.count
