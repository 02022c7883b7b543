pub mod Kinds
pub mod Nodes
pub mod Forests
pub mod Types
pub mod laws
