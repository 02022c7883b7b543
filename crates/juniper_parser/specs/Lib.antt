pub mod Building
pub mod Trees
pub mod NamedVariables
pub mod Promise
pub mod device
