-- The path's definitions are those that are open, and each is added up as far as it says.
use Rattle.std.proofs.Common.{◌≡◌, length, reverse}
use Rattle.juniper_outlines.specs.Definitions.{outlines_of}
use Rattle.juniper_outlines.proofs.Measure.{left}
use Rattle.juniper_outlines.proofs.Steps.{Walks}
use Rattle.juniper_outlines.proofs.walk.walk.Given as goal

abbrev pub invariant-loop-target : goal.invariant-loop-target
invariant-loop-target l = record {
  walks : Walks (outlines_of l.outlines) l.root l.states l.at (reverse l.path.items);
  long : length l.states ≡ length l.outlines;
}

abbrev pub decreases-loop-target : goal.decreases-loop-target
decreases-loop-target l = left (outlines_of l.outlines) l.states
