-- The map has the fragments from this index on.
use Rattle.std.proofs.Common.{map, drop}
use Rattle.std.specs.List.{position_from}
use Rattle.juniper_tree.specs.View.{view_definition}
use Rattle.juniper_complexity.specs.Parts.{is_fragment_named}
use Rattle.juniper_outlines.specs.Names.{Knows}
use Rattle.juniper_complexity.proofs.names.fragment_names.Given as goal

abbrev pub invariant-loop-i : goal.invariant-loop-i
invariant-loop-i g l =
    let view = view_definition g.S.ParseScalarValue.content in
    Knows l.names (λ name. position_from (is_fragment_named name) l.i (map view (drop l.i l.document)))
