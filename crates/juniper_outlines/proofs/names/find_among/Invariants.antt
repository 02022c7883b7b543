-- The first definitions are none of this name.
use Rattle.std.proofs.Common.{◌≡◌, drop}
use Rattle.std.specs.List.{position_from}
use Rattle.std.specs.Str.{chars}
use Rattle.juniper_outlines.specs.Definitions.{is_named, place_of}
use Rattle.juniper_outlines.proofs.names.find_among.Given as goal

abbrev pub invariant-loop-i : goal.invariant-loop-i
invariant-loop-i l =
    let test = is_named (chars l.name) in
    place_of l.definitions (chars l.name) ≡ position_from test l.i (drop l.i l.definitions)
