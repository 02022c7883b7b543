-- The bytes at which the characters of a source begin.
use Rattle.std.specs.Prelude.{ℕ, List, Option, Some, None, length, take, nat_le, if◌then◌else◌}
use Rattle.std.specs.Str.{encode_utf8_all}

-- the number of bytes before this character, where there is such a character or the source ends
abbrev pub byte_offset : List ℕ → ℕ → Option ℕ
byte_offset source index =
    if nat_le index (length source) then Some (length (encode_utf8_all (take index source))) else None
