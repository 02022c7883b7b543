pub mod BySpreads
pub mod Outlines
