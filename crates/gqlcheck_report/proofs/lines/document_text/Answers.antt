use Rattle.std.proofs.Common.{arith}
use Rattle.juniper_nodes.specs.NodeViews.{view_node}
use Rattle.gqlcheck_report.specs.Lines.{node_line, document_lines}
use Rattle.gqlcheck_report.proofs.Growth.{next_line, no_line}
use Rattle.gqlcheck_report.proofs.lines.document_text.Goals as goal

pub loop-node-preserved : goal.loop-node-preserved
loop-node-preserved g c =
    let l = c.loop-node in
    let xs = c.deref-node-items.result.now in
    let x = c.node-item in
    let view = view_node g.S.ParseScalarValue.content in
    next_line node_line view _ _ _ xs l.node-index x.result (omega arith) x.is l.invariant c.in_ok-write_node.ensures

pub returns : goal.returns
unfolding document_lines
returns g c =
    let l = c.loop-node in
    let xs = c.deref-node-items.result.now in
    let view = view_node g.S.ParseScalarValue.content in
    rw (← c.in_ok-nodes.ensures, ← c.deref-node-items.ensures.value)
    (no_line node_line view _ _ xs l.node-index (omega arith) l.invariant)
