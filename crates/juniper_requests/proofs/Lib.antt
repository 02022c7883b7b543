pub mod OneOperation
pub mod Named
pub mod Variables
pub mod FirstDefaults
pub mod Borders
mod FirstFragments
