pub mod BlockLaws
pub mod EqualityLaws
pub mod ValueLaws
pub mod ScalarLaws
pub mod BesideLaws
pub mod TypeLaws
