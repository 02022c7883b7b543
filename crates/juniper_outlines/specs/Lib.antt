pub mod Complexities
pub mod Sums
pub mod Names
pub mod Outlines
pub mod Definitions
pub mod device
