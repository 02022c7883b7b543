-- What a run reports of the bytes that it read.
use Rattle.std.specs.Prelude.{◌≡◌, ℕ, List, [], ◌∷◌, ◌++◌, codes, IsUtf8, chars, encode_utf8_all}
use Rattle.graphql_lexical.specs.Place.{Place}
use Rattle.graphql_lexical.specs.Kinds.{LexicalError}
use Rattle.graphql_lexical.specs.Display.{error_text}
use Rattle.graphql_lexical.specs.Cutting.{Lexeme, Cut, Breaks}
use Rattle.graphql_lexical.specs.Canonical.{canonical}
use Rattle.juniper_tokens.specs.Positions.{position_text}
use Rattle.gqlcanon.specs.declared.report.CanonicalEnd.{CanonicalEnd}
use Rattle.gqlcanon.specs.declared.report.CanonicalEnd.TheVariants.{Text, Refused, NotUtf8}

-- an error, and the line and column where it stands
abbrev pub fault_line : LexicalError → Place → List ℕ
fault_line error at = encode_utf8_all (error_text error) ++ (codes ". At " ++ (position_text at ++ 10 ∷ []))

-- the report on these bytes ends so, and is this text
abbrev pub Report : List ℕ → CanonicalEnd → List ℕ → Type 0
Report bytes Text text = IsUtf8 bytes
    × ((tokens : List Lexeme) × Cut (chars bytes) tokens × (text ≡ encode_utf8_all (canonical tokens)))
Report bytes Refused text = IsUtf8 bytes
    × ((error : LexicalError) × (at : Place) × Breaks (chars bytes) error at × (text ≡ fault_line error at))
Report bytes NotUtf8 text = ¬ IsUtf8 bytes × (text ≡ codes "Not UTF-8\n")
