-- The first `written` bytes have gone out.
use Rattle.std.proofs.Common.{◌≡◌, ◌-◌, ◌≤◌, false, length, take}
use Rattle.std.specs.Io.KnownBytes.{Appends}
use Rattle.streams.specs.Watched.{inner_of, has_failed}
use Rattle.streams.proofs.whole.write_all.Given as goal

abbrev pub invariant-writes : goal.invariant-writes
invariant-writes g l = record {
  within : l.written ≤ length l.text;
  out : Appends (g.W.Write.contents (inner_of l.fn.writer)) (g.W.Write.contents (inner_of l.writer))
      (take l.written l.text);
  sound : has_failed l.writer ≡ false;
}

abbrev pub decreases-writes : goal.decreases-writes
decreases-writes g l = length l.text - l.written
