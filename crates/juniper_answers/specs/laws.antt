pub mod EqualityLaws
pub mod AnswerLaws
