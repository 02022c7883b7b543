use Rattle.graphql_nodes.specs.Nodes.{directive_nodes, directives_nodes}
use Rattle.juniper_tree.specs.View.{view_directive}
use Rattle.juniper_nodes.proofs.Growth.{grown_none}
use Rattle.juniper_nodes.proofs.Rows.{each_seen}
use Rattle.juniper_nodes.proofs.nodes.directives.push_directives.Goals as goal

pub returns-in-None : goal.returns-in-None
unfolding directives_nodes
returns-in-None g c = rw c.in-None.is (grown_none g.S.ParseScalarValue.content _)

pub returns-in-Some : goal.returns-in-Some
unfolding directives_nodes
returns-in-Some g c =
    let content = g.S.ParseScalarValue.content in
    rw (c.in-Some.is, ← c.deref.ensures.value, ← each_seen directive_nodes (view_directive content) c.deref.result.now)
    c.push_each.ensures
