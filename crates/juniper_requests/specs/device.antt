pub mod Seen
pub mod Offsets
