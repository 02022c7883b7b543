-- A device: the ignored tokens before a token, by the computed scan.
use Rattle.std.specs.Prelude.{◌≡◌, ℕ, ◌+◌, ◌≤◌, ◌<◌, ◌^◌, ◌==◌, Bool, false, List, [], ◌∷◌, drop, length}
use Rattle.std.specs.Str.{chars}
use Rattle.graphql_lexical.specs.Place.{Place, place}
use Rattle.graphql_lexical.specs.device.Scan as scans
use Rattle.juniper_tokens.specs.device.ByteRuns.{byte_at}
use Rattle.juniper_tokens.specs.Lexing.{LexerState}

abbrev pub past_ignored : LexerState → LexerState
past_ignored s =
    record { source = s.source; index = s.index + scans.ignored_size (drop s.index s.source); ended = s.ended }

-- a byte order mark stands first
abbrev pub begins_with_mark : List ℕ → Bool
begins_with_mark [] = false
begins_with_mark (c ∷ cs) = c == 65279

-- the byte and the place of a character
pub record IsPlaced (source : List ℕ) (at : ℕ) (p : Place) : Type 0 where
  pub byte_is : at ≡ byte_at p.index (chars source)
  pub place_is : p ≡ place (chars source) p.index
  pub within : p.index ≤ length (chars source)
  pub fits : length source < 2 ^ 64
