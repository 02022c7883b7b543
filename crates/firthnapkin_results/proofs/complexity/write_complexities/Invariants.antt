-- The complexities so far are in the buffer.
use Rattle.std.proofs.Common.{◌≡◌, ◌^◌, ◌<◌, List, length, map, take}
use Rattle.graphql_grammar.specs.Tree.{Definition}
use Rattle.graphql_nodes.specs.Nodes.{document_nodes}
use Rattle.juniper_complexity.specs.Faults.{OperationsHave}
use Rattle.juniper_values.specs.Scalar.{Content}
use Rattle.firthnapkin_results.specs.Buildings.{AreMarked}
use Rattle.firthnapkin_results.specs.Builders.{with_written}
use Rattle.firthnapkin_results.specs.Complexities.{complexity_of}
use Rattle.firthnapkin_results.proofs.complexity.write_complexities.Given as goal

abbrev pub invariant-loop-i : goal.invariant-loop-i
invariant-loop-i l =
    (tree : List (Definition Content)) → AreMarked 0 l.definitions tree → length (document_nodes tree) < 2 ^ 32
    → OperationsHave tree 0 tree l.found
    → l.buffer ≡ with_written l.initial.buffer 0 (map (complexity_of tree) (take l.i l.found))
