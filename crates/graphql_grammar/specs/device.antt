pub mod AlikeFaults
pub mod Faults
pub mod Reading
pub mod Productions
