pub mod Within
pub mod Limited
pub mod Literals
pub mod Sinks
pub mod Sources
pub mod device
pub mod laws
