pub mod Seen
pub mod Steps
pub mod PartViews
pub mod Builds
