-- The starts so far are those of the characters that begin in the bytes so far.
use Rattle.std.proofs.Common.{◌+◌}
use Rattle.firthnapkin_results.specs.ByteTables.{HasStarts}
use Rattle.firthnapkin_results.proofs.byte_table.push_all.Given as goal

abbrev pub invariant-loop-more : goal.invariant-loop-more
invariant-loop-more l = HasStarts l.bytes (l.from + l.more) l.starts
