-- The builder has counted the directives of the definitions so far.
use Rattle.juniper_complexity.proofs.Variables.{CountsFirst}
use Rattle.juniper_complexity.proofs.tree_outlines.gather_each_variable.Given as goal

abbrev pub invariant-loop-variable : goal.invariant-loop-variable
invariant-loop-variable g l =
    CountsFirst g.S.ParseScalarValue.content l.initial.builder l.builder l.variables l.variable-index
