-- Tokens, as the grammar sees them.
use Rattle.std.specs.Prelude.{◌≡◌, ◌⊎◌, []}
use Rattle.graphql_lexical.specs.declared.kind.Kind.TheVariants.{EndOfFile}
pub use Rattle.graphql_lexical.specs.Characters.{Text}
use Rattle.graphql_lexical.specs.Place.{Span}
pub use Rattle.graphql_lexical.specs.Place.{nowhere}
use Rattle.graphql_lexical.specs.Tokens.{Spells}
use Rattle.graphql_lexical.specs.Cutting.{Lexeme}
pub use Rattle.graphql_lexical.specs.Cutting.{span_of}

-- what stands from one place to another
pub record Located (A : Type 0) : Type 0 where
  pub item : A
  pub span : Span

-- the text of a Name, and where it stands
abbrev pub Word : Type 0
Word = Located Text

abbrev pub word_of : Lexeme → Word
word_of t = record { item = t.text; span = t.span }

-- from the start of one token to the end of another
abbrev pub over : Lexeme → Lexeme → Span
over first last = record { start = first.span.start; end = last.span.end }

-- from the start of one span to the end of another
abbrev pub from_to : Span → Span → Span
from_to a b = record { start = a.start; end = b.end }

-- Some text spells the token, or it is the end, which has no text.
abbrev pub IsSpelled : Lexeme → Type 0
IsSpelled t = ((whole : Text) × Spells whole t.kind t.text) ⊎ ((t.kind ≡ EndOfFile) × (t.text ≡ []))
