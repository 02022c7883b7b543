-- What proofs of other crates may import of this crate's proofs, and all of it.
pub use Rattle.graphql_nodes.proofs.Forests.{descendants_follow}
pub use Rattle.graphql_nodes.proofs.Lying.{broken_lies, token_among, tokens_lie}
pub use Rattle.graphql_nodes.proofs.Measures.{IsUntyped, Weighs}
pub use Rattle.graphql_nodes.proofs.Sources.{HasNodes, definitions_have_nodes, few_nodes_of_source, front_of, nodes_lie, type_has_nodes, value_has_nodes}
