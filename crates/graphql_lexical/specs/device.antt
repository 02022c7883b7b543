pub mod Machines
pub mod Scan
pub mod Numbers
pub mod Whole
pub mod Indexed
pub mod Streams
