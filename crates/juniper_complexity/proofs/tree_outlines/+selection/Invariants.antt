-- The builder has gathered the selections so far.
use Rattle.juniper_complexity.proofs.Selecting.{GathersFirst}
use Rattle.juniper_complexity.proofs.tree_outlines.+selection.Given as goal

abbrev pub invariant-gather_selections-loop-selection : goal.invariant-gather_selections-loop-selection
invariant-gather_selections-loop-selection g l =
    GathersFirst g.S.ParseScalarValue.content l.initial.builder l.builder l.selections l.selection-index
