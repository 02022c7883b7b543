pub mod Parts
pub mod Expansion
pub mod Faults
pub mod Gathered
pub mod device
