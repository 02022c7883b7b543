pub mod Ends
pub mod Report
