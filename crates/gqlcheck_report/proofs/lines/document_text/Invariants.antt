-- The lines so far, and those of the nodes that are left, are the lines of all.
use Rattle.std.proofs.Common.{◌≡◌, ◌++◌, drop, map, string_bytes, encode_utf8_all}
use Rattle.graphql_nodes.specs.Nodes.{each}
use Rattle.juniper_nodes.specs.NodeViews.{view_node}
use Rattle.gqlcheck_report.specs.Lines.{node_line}
use Rattle.gqlcheck_report.proofs.lines.document_text.Given as goal

abbrev pub invariant-loop-node : goal.invariant-loop-node
invariant-loop-node g l =
    let view = view_node g.S.ParseScalarValue.content in
    encode_utf8_all (each node_line (map view l.node-items))
    ≡ string_bytes l.text ++ encode_utf8_all (each node_line (map view (drop l.node-index l.node-items)))
