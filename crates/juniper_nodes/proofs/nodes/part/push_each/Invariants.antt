-- The nodes so far are those of the parts so far.
use Rattle.std.specs.Prelude.{take, flat_map}
use Rattle.juniper_nodes.specs.NodeViews.{GainsBy}
use Rattle.juniper_nodes.proofs.nodes.part.push_each.Given as goal

abbrev pub invariant-loop-part : goal.invariant-loop-part
invariant-loop-part g l =
    GainsBy g.P.Part.see l.initial.nodes l.nodes (flat_map g.P.Part.part_nodes (take l.part-index l.parts))
