pub mod PositionOrder
pub mod TokenLaws
pub mod ErrorLaws
