use Rattle.std.proofs.Common.{◌≡◌, map, drop, None, option_map}
use Rattle.juniper_tree.specs.View.{view_definition}
use Rattle.juniper_tree.specs.declared.ast.Definition.TheVariants as definition
use Rattle.juniper_requests.proofs.OneOperation.{only_after}
use Rattle.juniper_requests.proofs.operations.only_one.Given as goal

abbrev pub invariant-loop-definition : goal.invariant-loop-definition
invariant-loop-definition g l =
    let view = view_definition g.S.ParseScalarValue.content in
    only_after None (map view l.document)
    ≡ only_after (option_map (λ o. view (definition.Operation o.now)) l.found)
    (map view (drop l.definition-index l.document))
