-- The map has the fragments from this index on.
use Rattle.std.proofs.Common.{drop}
use Rattle.std.specs.List.{position_from}
use Rattle.juniper_outlines.specs.Names.{Knows}
use Rattle.juniper_outlines.specs.Definitions.{is_named}
use Rattle.juniper_outlines.proofs.names.put_all.Given as goal

abbrev pub invariant-loop-i : goal.invariant-loop-i
invariant-loop-i l = Knows l.names (λ name. position_from (is_named name) l.i (drop l.i l.definitions))
