pub mod Places
pub mod Steps
pub mod Measure
pub mod Elements
pub mod OwnComplexities
pub mod FirstStates
pub mod Counting
pub mod Public
