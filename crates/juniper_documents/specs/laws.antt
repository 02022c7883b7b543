pub mod TreeLaws
pub mod RefusalClauses
