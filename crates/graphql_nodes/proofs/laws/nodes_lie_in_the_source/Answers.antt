use Rattle.graphql_grammar.specs.Grammar.{IsDefinition, Several}
use Rattle.graphql_nodes.specs.Nodes.{document_nodes}
use Rattle.graphql_nodes.proofs.Sources.{definitions_have_nodes, nodes_lie}
use Rattle.graphql_nodes.proofs.laws.nodes_lie_in_the_source.Goals as goal

pub returns : goal.returns
returns g c S source ts ds cut document =
    nodes_lie S (Several (IsDefinition S)) document_nodes (definitions_have_nodes S) ts ds document source cut
