pub mod ReadBack
pub mod SameArguments
pub mod SelectionViews
pub mod ValueViews
pub mod Public
