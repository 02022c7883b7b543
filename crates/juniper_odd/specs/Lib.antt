pub mod ReadBy
pub mod RefuseAll
pub mod OddError
pub mod Decimals
pub mod Thousandths
pub mod WithoutScalars
