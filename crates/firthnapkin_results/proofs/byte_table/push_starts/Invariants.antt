-- The starts so far are those of the characters that begin in the bytes so far.
use Rattle.firthnapkin_results.specs.ByteTables.{HasStarts}
use Rattle.firthnapkin_results.proofs.byte_table.push_starts.Given as goal

abbrev pub invariant-loop-at : goal.invariant-loop-at
invariant-loop-at l = HasStarts l.bytes l.at l.starts
