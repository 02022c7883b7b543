-- The nodes so far are those of the parts so far.
use Rattle.graphql_nodes.specs.Nodes.{definition_nodes}
use Rattle.juniper_tree.specs.View.{view_definition}
use Rattle.juniper_nodes.proofs.Rows.{Goes}
use Rattle.juniper_nodes.proofs.nodes.definition.document_nodes.Given as goal

abbrev pub invariant-loop-definition : goal.invariant-loop-definition
invariant-loop-definition g l =
    let content = g.S.ParseScalarValue.content in
    Goes content definition_nodes (view_definition content) l.initial.nodes l.nodes l.document l.definition-index
