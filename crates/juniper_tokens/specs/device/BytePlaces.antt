-- A device: positions with their bytes.
use Rattle.std.specs.Prelude.{ℕ, ◌+◌, ◌≤◌, List}
use Rattle.graphql_lexical.specs.Place.{Place, place}
use Rattle.juniper_tokens.specs.device.ByteRuns.{byte_at}
use Rattle.juniper_tokens.specs.declared.lexer.text.Offset.{Offset}

-- a position, and how many bytes are before it
pub record BytePlace : Type 0 where
  pub byte : ℕ
  pub place : Place

-- the position of character k of a source
abbrev pub byte_place : List ℕ → ℕ → BytePlace
byte_place source k = record { byte = byte_at k source; place = place source k }

-- the bytes and the characters before it
abbrev pub offset_at : BytePlace → Offset
offset_at p = record { bytes = p.byte; characters = p.place.index }

-- The line begins at this position or before it. Each line before it has a line feed, so its number is at most the
-- number of characters before the line.
pub record IsBytePlace (bytes inner line line_start : ℕ) : Type 0 where
  pub fewer : line_start + inner ≤ bytes
  pub lines : line ≤ line_start
