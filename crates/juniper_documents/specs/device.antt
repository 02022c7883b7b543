pub mod Alone
pub mod Ended
