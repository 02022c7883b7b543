-- With the complexities of the operations from this definition on, the complexities so far are those of all.
use Rattle.std.proofs.Common.{◌≡◌, length}
use Rattle.juniper_outlines.specs.Definitions.{outlines_of}
use Rattle.juniper_outlines.specs.Outlines.{EarlierOutlinesHave}
use Rattle.juniper_outlines.specs.device.Walk.{AreRight}
use Rattle.juniper_outlines.proofs.Counting.{Counted}
use Rattle.juniper_outlines.proofs.operations.walked_complexities.Given as goal

abbrev pub invariant-loop-i : goal.invariant-loop-i
invariant-loop-i l = record {
  counted : Counted (outlines_of l.definitions) l.i l.complexities.items;
  before : EarlierOutlinesHave (outlines_of l.definitions) l.i;
  right : AreRight (outlines_of l.definitions) l.states.items;
  many : length l.states.items ≡ length l.definitions;
}
