pub mod Watched
pub mod Reports
