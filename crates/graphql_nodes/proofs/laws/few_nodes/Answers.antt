use Rattle.graphql_grammar.specs.Grammar.{IsDefinition, Several}
use Rattle.graphql_nodes.specs.Nodes.{document_nodes}
use Rattle.graphql_nodes.proofs.Sources.{definitions_have_nodes, few_nodes, few_nodes_of_source}
use Rattle.graphql_nodes.proofs.laws.few_nodes.Goals as goal

pub returns-clause-tokens : goal.returns-clause-tokens
returns-clause-tokens g c S = few_nodes S (Several (IsDefinition S)) document_nodes (definitions_have_nodes S)

pub returns-clause-characters : goal.returns-clause-characters
returns-clause-characters g c S source ts ds cut document =
    few_nodes_of_source S (Several (IsDefinition S)) document_nodes (definitions_have_nodes S) ts ds document source cut
