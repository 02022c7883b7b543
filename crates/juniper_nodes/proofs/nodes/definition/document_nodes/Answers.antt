use Rattle.std.proofs.Common.{◌∙◌, ◌++◌, map, ap, arith}
use Rattle.graphql_nodes.specs.Nodes.{each, definition_nodes, document_nodes}
use Rattle.juniper_tree.specs.View.{view_definition}
use Rattle.juniper_nodes.specs.NodeViews.{view_node}
use Rattle.juniper_nodes.proofs.Rows.{no_part_yet, next_part, no_part}
use Rattle.juniper_nodes.proofs.nodes.definition.document_nodes.Goals as goal

pub loop-definition-init : goal.loop-definition-init
loop-definition-init g c = no_part_yet g.S.ParseScalarValue.content definition_nodes
    (view_definition g.S.ParseScalarValue.content) c.new-nodes.result c.args.document.now

pub loop-definition-preserved : goal.loop-definition-preserved
loop-definition-preserved g c =
    let content = g.S.ParseScalarValue.content in
    let l = c.loop-definition in
    let xs = c.args.document.now in
    let x = c.definition-item in
    let view = view_definition content in
    let i = l.definition-index in
    next_part content definition_nodes view c.new-nodes.result l.nodes _ xs i x.result (omega arith) x.is
    l.invariant c.in_ok-push_definition.ensures.gained

pub returns : goal.returns
unfolding document_nodes
returns g c =
    let content = g.S.ParseScalarValue.content in
    let l = c.loop-definition in
    let xs = c.args.document.now in
    let view = view_definition content in
    let i = l.definition-index in
    let gains = no_part content definition_nodes view c.new-nodes.result l.nodes xs i (omega arith) l.invariant in
    gains.nodes
    ∙ ap (λ ns. map (view_node content) ns ++ each definition_nodes (map view xs)) c.new-nodes.ensures.items
