-- The names so far, and those of the definitions that are left, are the names of all.
use Rattle.std.proofs.Common.{◌≡◌, ◌++◌, drop, map}
use Rattle.juniper_tree.specs.View.{view_definition}
use Rattle.guide.specs.Fields.{texts, field_names}
use Rattle.guide.proofs.walk.field_names.Given as goal

abbrev pub invariant-loop-definition : goal.invariant-loop-definition
invariant-loop-definition g l =
    field_names (map (view_definition g.S.ParseScalarValue.content) l.document)
    ≡ texts l.names.items ++ field_names (map (view_definition g.S.ParseScalarValue.content)
    (drop l.definition-index l.document))
