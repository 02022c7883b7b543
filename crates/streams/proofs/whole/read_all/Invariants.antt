-- What is kept is what was read. Each turn keeps more, and a `Vec` holds below 2^63 bytes.
use Rattle.std.proofs.Common.{◌≡◌, ◌-◌, ◌^◌, false, vec_len}
use Rattle.std.specs.Io.KnownBytes.{Consumes}
use Rattle.streams.specs.Watched.{inner_of, has_failed}
use Rattle.streams.proofs.whole.read_all.Given as goal

abbrev pub invariant-reads : goal.invariant-reads
invariant-reads g l = record {
  kept : Consumes (g.R.Read.remaining (inner_of l.fn.reader)) (g.R.Read.remaining (inner_of l.reader)) l.source.items;
  sound : has_failed l.reader ≡ false;
}

abbrev pub decreases-reads : goal.decreases-reads
decreases-reads g l = 2 ^ 63 - vec_len l.source
