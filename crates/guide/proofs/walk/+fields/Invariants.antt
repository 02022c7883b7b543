-- The names so far, and those of the selections that are left, are the names of all.
use Rattle.std.proofs.Common.{◌≡◌, ◌++◌, drop}
use Rattle.juniper_tree.specs.View.{view_selections}
use Rattle.guide.specs.Fields.{texts, fields_among}
use Rattle.guide.proofs.walk.+fields.Given as goal

abbrev pub invariant-note_fields-loop-selection : goal.invariant-note_fields-loop-selection
invariant-note_fields-loop-selection g l =
    texts l.initial.names.items ++ fields_among (view_selections g.S.ParseScalarValue.content l.selections)
    ≡ texts l.names.items ++ fields_among (view_selections g.S.ParseScalarValue.content
    (drop l.selection-index l.selections))
