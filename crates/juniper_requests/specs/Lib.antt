pub mod Operations
pub mod Fragments
pub mod Defaults
pub mod Bytes
pub mod device
