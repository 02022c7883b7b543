-- The escapes of a String that are a backslash and one character (GraphQL specification, October 2021, section 2.9.4).
use Rattle.std.specs.Prelude.{ℕ, Option, Some, None, if◌then◌else◌, ◌==◌}

-- what a backslash and this character stand for
abbrev pub short_escape : ℕ → Option ℕ
short_escape c =
    if c == 34 then Some 34
    else if c == 92 then Some 92
    else if c == 47 then Some 47
    else if c == 98 then Some 8
    else if c == 102 then Some 12
    else if c == 110 then Some 10
    else if c == 114 then Some 13
    else if c == 116 then Some 9
    else None
