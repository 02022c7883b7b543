-- What private contracts and proofs compute with.
pub mod Excerpts
