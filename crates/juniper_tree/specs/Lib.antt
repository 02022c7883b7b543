pub mod View
pub mod Cases
pub mod Named
pub mod SameArguments
pub mod Scalars
pub mod ReadBack
