use Rattle.std.proofs.Common.{◌≡◌, map, drop}
use Rattle.std.specs.List.{find}
use Rattle.std.specs.Str.{chars}
use Rattle.juniper_tree.specs.View.{view_definition}
use Rattle.juniper_requests.specs.Operations.{is_operation_named}
use Rattle.juniper_requests.proofs.operations.first_named.Given as goal

abbrev pub invariant-loop-definition : goal.invariant-loop-definition
invariant-loop-definition g l =
    let view = view_definition g.S.ParseScalarValue.content in
    find (is_operation_named (chars l.name)) (map view l.document)
    ≡ find (is_operation_named (chars l.name)) (map view (drop l.definition-index l.document))
