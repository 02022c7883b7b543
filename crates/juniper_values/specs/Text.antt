-- A text is a list of characters.
use Rattle.std.specs.Prelude.{Bool, bytes_eq}
pub use Rattle.graphql_lexical.specs.Characters.{Text}

-- whether two texts have the same characters
abbrev pub same_text : Text → Text → Bool
same_text = bytes_eq
