use Rattle.graphql_nodes.proofs.Determined.{document_determined}
use Rattle.graphql_nodes.proofs.laws.nodes_determine_the_tree.Goals as goal

pub returns : goal.returns
returns g c = document_determined
