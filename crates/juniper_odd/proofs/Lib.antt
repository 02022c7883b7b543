pub mod Parts
pub mod Numbers
pub mod Places
pub mod WithoutScalars
