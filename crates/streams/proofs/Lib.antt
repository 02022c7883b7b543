pub mod Texts
pub mod Public
