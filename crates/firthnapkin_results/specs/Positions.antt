-- Positions of a source, as C gets them.
use Rattle.std.specs.Prelude.{ℕ, List, take, length, encode_utf8_all}
use Rattle.graphql_lexical.specs.Place as places
use Rattle.firthnapkin_results.specs.declared.position.Position.{Position}

-- the number of bytes of a source before the character of this index, or of all bytes where there is none
abbrev pub bytes_before : List ℕ → ℕ → ℕ
bytes_before source index = length (encode_utf8_all (take index source))

-- a position, in characters, and the byte of the source
abbrev pub written_position : List ℕ → places.Place → Position
written_position source p = record
    { index = p.index; line = p.line; column = p.column; byte = bytes_before source p.index }
