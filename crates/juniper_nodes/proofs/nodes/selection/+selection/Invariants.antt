-- The nodes so far, and those of the selections that are left, are the nodes of all.
use Rattle.graphql_nodes.specs.Nodes.{selection_nodes}
use Rattle.juniper_tree.specs.View.{view_selection}
use Rattle.juniper_nodes.proofs.Rows.{Goes}
use Rattle.juniper_nodes.proofs.nodes.selection.+selection.Given as goal

abbrev pub invariant-push_selections-loop-selection : goal.invariant-push_selections-loop-selection
invariant-push_selections-loop-selection g l =
    let content = g.S.ParseScalarValue.content in
    Goes content selection_nodes (view_selection content) l.initial.nodes l.nodes l.selections l.selection-index
