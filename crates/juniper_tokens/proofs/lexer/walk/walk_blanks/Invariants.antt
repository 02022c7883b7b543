use Rattle.std.proofs.Common.{length, ◌-◌}
use Rattle.juniper_tokens.specs.device.Walks.{IsInIgnored}
use Rattle.juniper_tokens.proofs.lexer.walk.walk_blanks.Given as goal

abbrev pub invariant-loop-bytes : goal.invariant-loop-bytes
invariant-loop-bytes l = IsInIgnored l.fn.source l.fn.start.place.index l.here

abbrev pub decreases-loop-bytes : goal.decreases-loop-bytes
decreases-loop-bytes l = length l.bytes - l.here.byte
