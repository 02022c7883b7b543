use Rattle.graphql_nodes.specs.Nodes.{document_nodes}
use Rattle.graphql_nodes.proofs.Forests.{document_forest, descendants_follow}
use Rattle.graphql_nodes.proofs.laws.nodes_are_a_forest.Goals as goal

pub returns-clause-forest : goal.returns-clause-forest
returns-clause-forest g c = document_forest

pub returns-clause-descendants_follow : goal.returns-clause-descendants_follow
returns-clause-descendants_follow g c a before after node =
    descendants_follow (document_nodes a) before after node (document_forest a)
