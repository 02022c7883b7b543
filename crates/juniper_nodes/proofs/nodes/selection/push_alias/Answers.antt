use Rattle.graphql_nodes.specs.Nodes.{alias_nodes}
use Rattle.juniper_nodes.proofs.nodes.selection.push_alias.Goals as goal

pub returns-in-Some : goal.returns-in-Some
unfolding alias_nodes
returns-in-Some g c = rw c.in-Some.is c.push_leaf.ensures
