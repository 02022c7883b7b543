-- A prefix of a source, and tokens after it with spaces between.
use Rattle.std.specs.Prelude.{◌≡◌, List, [], ◌∷◌, ◌++◌, codes}
use Rattle.std.specs.List.{AllZip}
use Rattle.graphql_lexical.specs.Characters.{Text}
use Rattle.graphql_lexical.specs.Kinds.{EndOfFile}
use Rattle.graphql_lexical.specs.Tokens.{Spells}
use Rattle.graphql_lexical.specs.Cutting.{Lexeme, up_to, Cut}
use Rattle.graphql_lexical.specs.laws.Alike.{Alike}

-- The text is these tokens in a row, each spelled, with a space after it.
abbrev pub IsSpaced : Text → List Lexeme → Type 0
IsSpaced text [] = text ≡ []
IsSpaced text (x ∷ xs) = (whole rest : Text) × (text ≡ whole ++ (codes " " ++ rest)) × Spells whole x.kind x.text × IsSpaced rest xs

-- The text is cut into these tokens, with these spans, then tokens alike with the others, and the end.
pub record GoesOn (text : Text) (front others : List Lexeme) : Type 0 where
  pub added : List Lexeme
  pub end : Lexeme
  pub cut : Cut text (front ++ (added ++ end ∷ []))
  pub alike : AllZip Alike added others
  pub is_end : end.kind ≡ EndOfFile

-- The source up to the end of a token that is not its last, or up to its beginning, then a space, and then spelled
-- tokens with a space after each: this is cut into the source's tokens up to that one and tokens alike with those.
abbrev pub GoesOnSpaced : Text → Type 0
GoesOnSpaced source = (front : List Lexeme) (next : Lexeme) (after others : List Lexeme) (text : Text) → Cut source (front ++ next ∷ after) → IsSpaced text others → GoesOn (up_to source front ++ (codes " " ++ text)) front others
