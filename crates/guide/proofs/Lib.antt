pub mod DefinitionNames
pub mod Fronts
pub mod NamesOfFields
pub mod Trees
pub mod EventsInTurn
pub mod AnswersInTurn
