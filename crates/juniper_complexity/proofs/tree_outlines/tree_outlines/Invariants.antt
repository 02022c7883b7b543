-- The outlines so far are those of the definitions so far.
use Rattle.std.proofs.Common.{map, take}
use Rattle.juniper_tree.specs.View.{view_definition}
use Rattle.juniper_complexity.specs.Gathered.{AreGathered}
use Rattle.juniper_complexity.proofs.tree_outlines.tree_outlines.Given as goal

abbrev pub invariant-loop-definition : goal.invariant-loop-definition
invariant-loop-definition g l =
    AreGathered l.outlines.items
    (map (view_definition g.S.ParseScalarValue.content) (take l.definition-index l.document))
