-- The complexities of operations, and the nodes of their definitions.
use Rattle.std.proofs.Common.{◌≡◌, ◌+◌, ◌<◌, ◌≤◌, ℕ, zero, suc, List, [], ◌∷◌, length, take, refl, ap, arith}
use Rattle.std.proofs.Common.{length-append, ◌∙◌, Some}
use Rattle.std.specs.List.{slice_get}
use Rattle.graphql_grammar.specs.Tree as tree
use Rattle.graphql_grammar.specs.Tree.{Definition}
use Rattle.graphql_nodes.specs.Nodes.{each, definition_nodes, document_nodes}
use Rattle.juniper_complexity.specs.Faults.{OperationsHave, no_definition, fragment_first, operation_first}
use Rattle.juniper_outlines.specs.declared.outline.DefinitionOutline.{DefinitionOutline}
use Rattle.juniper_outlines.specs.declared.operations.OperationComplexity.{OperationComplexity}
use Rattle.juniper_values.specs.Scalar.{Content}
use Rattle.firthnapkin_results.specs.Buildings.{AreMarked}

-- a definition has a node
one_node : (d : Definition Content) → 1 ≤ length (definition_nodes d)
unfolding definition_nodes
one_node (tree.Operation type name variables directives set span) = omega arith
one_node (tree.Fragment name condition directives set span) = omega arith

pub few_definitions : (ds : List (Definition Content)) → length ds ≤ length (each definition_nodes ds)
unfolding each
few_definitions [] = omega arith
few_definitions (d ∷ ds) =
    let one = one_node d in
    let others = few_definitions ds in
    let count = length-append (definition_nodes d) (each definition_nodes ds) in
    omega (arith, one, others, count)

few_operations : (document : List (Definition Content)) (i : ℕ) (ds : List (Definition Content))
    (cs : List OperationComplexity) → OperationsHave document i ds cs → length cs ≤ length ds
few_operations document i [] [] no_definition = omega arith
few_operations document i [] (c ∷ cs) h = elim h [ ]
few_operations document i (d ∷ ds) cs (fragment_first e k) =
    let n = few_operations document (suc i) ds cs k in omega (arith, n)
few_operations document i (d ∷ ds) (c ∷ cs) (operation_first x e h k) =
    let n = few_operations document (suc i) ds cs k in omega (arith, n)

pub few_complexities : (ds : List (Definition Content)) (cs : List OperationComplexity) → OperationsHave ds 0 ds cs
    → length cs ≤ length (document_nodes ds)
unfolding document_nodes
few_complexities ds cs h =
    let one = few_operations ds 0 ds cs h in let two = few_definitions ds in omega (arith, one, two)

-- an operation is one of the definitions
pub in_document : (document : List (Definition Content)) (i : ℕ) (ds : List (Definition Content))
    (cs : List OperationComplexity) → OperationsHave document i ds cs → (j : ℕ) (c : OperationComplexity)
    → slice_get cs j ≡ Some c → c.definition < i + length ds
in_document document i [] [] no_definition j c e = absurd cc
in_document document i [] (b ∷ cs) h j c e = elim h [ ]
in_document document i (d ∷ ds) cs (fragment_first q k) j c e =
    let n = in_document document (suc i) ds cs k j c e in omega (arith, n)
in_document document i (d ∷ ds) (b ∷ cs) (operation_first x q h k) zero c e =
    let same : i ≡ c.definition = cc in omega (arith, same)
in_document document i (d ∷ ds) (b ∷ cs) (operation_first x q h k) (suc j) c e =
    let n = in_document document (suc i) ds cs k j c e in omega (arith, n)

-- ---- marks

pub as_many_marks : (at : ℕ) (os : List DefinitionOutline) (ds : List (Definition Content)) → AreMarked at os ds
    → length os ≡ length ds
as_many_marks at [] [] h = refl
as_many_marks at [] (d ∷ ds) h = absurd h
as_many_marks at (o ∷ os) [] h = absurd h
as_many_marks at (o ∷ os) (d ∷ ds) h = ap suc (as_many_marks (at + length (definition_nodes d)) os ds h.1)

-- the mark of an outline is the number of nodes before its definition
pub mark_at : (at : ℕ) (os : List DefinitionOutline) (ds : List (Definition Content)) → AreMarked at os ds → (i : ℕ)
    (o : DefinitionOutline) → slice_get os i ≡ Some o → o.mark ≡ at + length (each definition_nodes (take i ds))
unfolding each
mark_at at [] ds h i o e = absurd cc
mark_at at (p ∷ os) [] h i o e = absurd h
mark_at at (p ∷ os) (d ∷ ds) h zero o e = let same : p ≡ o = cc in rw (← same) (h.0 ∙ omega arith)
mark_at at (p ∷ os) (d ∷ ds) h (suc i) o e =
    let rest = mark_at (at + length (definition_nodes d)) os ds h.1 i o e in
    let count = length-append (definition_nodes d) (each definition_nodes (take i ds)) in
    omega (arith, rest, count)

-- and no more than there are nodes
pub few_before : (ds : List (Definition Content)) (i : ℕ)
    → length (each definition_nodes (take i ds)) ≤ length (each definition_nodes ds)
unfolding each
few_before [] zero = omega arith
few_before [] (suc i) = omega arith
few_before (d ∷ ds) zero = omega arith
few_before (d ∷ ds) (suc i) =
    let rest = few_before ds i in
    let one = length-append (definition_nodes d) (each definition_nodes (take i ds)) in
    let all = length-append (definition_nodes d) (each definition_nodes ds) in
    omega (arith, rest, one, all)
