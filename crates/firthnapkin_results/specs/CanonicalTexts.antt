-- What a call returns for a source's canonical text.
use Rattle.std.specs.Prelude.{◌≡◌, ◌<◌, ◌≤◌, ◌^◌, ◌⊎◌, ℕ, List, length, IsUtf8, chars, Result, Ok, Err, string_bytes, encode_utf8_all}
use Rattle.graphql_lexical.specs.Place.{Place}
use Rattle.graphql_lexical.specs.Kinds.{LexicalError}
use Rattle.graphql_lexical.specs.Canonical.{canonical}
use Rattle.graphql_lexical.specs.Cutting.{Lexeme, Breaks}
use Rattle.juniper_parser.specs.Promise.{lexical_fault}
use Rattle.firthnapkin_results.specs.Errors.{written_error}
use Rattle.firthnapkin_results.specs.Sources.{IsUnread}
use Rattle.firthnapkin_results.specs.declared.source.Unread.{Unread}
use Rattle.firthnapkin_results.specs.Tokens.{HasTokens}
use Rattle.firthnapkin_results.specs.declared.canonical.Canonical.{Canonical}
use Rattle.firthnapkin_results.specs.declared.canonical.Canonical.TheVariants as answer

-- the statuses of `firthnapkin_canonical`
abbrev pub IsCanonicalStatus : ℕ → Type 0
IsCanonicalStatus n = (n ≤ 3) ⊎ ((n ≡ 6) ⊎ (n ≡ 7))

-- ---- before the buffer is looked at

-- the canonical text of a source, or why there is none
abbrev pub ReturnsCanonical : List ℕ → Result Canonical Unread → Type 0
ReturnsCanonical source (Ok (answer.Text text)) = (length source < 2 ^ 32)
    × ((lexemes : List Lexeme) × HasTokens source lexemes
    × (string_bytes text ≡ encode_utf8_all (canonical lexemes)))
ReturnsCanonical source (Ok (answer.Refused error)) = (length source < 2 ^ 32) × IsUtf8 source
    × ((lexical : LexicalError) × (at : Place)
    × Breaks (chars source) lexical at × (error ≡ written_error (chars source) (lexical_fault lexical at)))
ReturnsCanonical source (Err unread) = IsUnread source unread
