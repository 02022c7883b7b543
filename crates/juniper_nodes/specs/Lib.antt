pub mod Literal
pub mod laws
pub mod NodeTexts
pub mod NodeViews
