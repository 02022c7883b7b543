-- The lines of a source around a position, with a caret below it.
use Rattle.std.specs.Prelude.{◌≡◌, Bool, ◌+◌, ◌-◌, ◌==◌, ◌<◌, ◌≤◌, ◌^◌, ℕ, zero, suc, if◌then◌else◌, nat_lt, List, [], ◌∷◌, ◌++◌, map, take, drop, length, replicate, slice_get, codes, chars, encode_utf8_all, IsUtf8, Option, Some, None, is_some, unwrap_or, Result, Ok, Err, String, string_bytes}
use Rattle.std.specs.List.{slice_split}
use Rattle.std.specs.Fmt.{decimal}
use Rattle.std.specs.declared.alloc.Global.{Global}
use Rattle.graphql_lexical.specs.Characters.{Text, is_line_feed}
use Rattle.graphql_lexical.specs.Place.{Place, position_after}
use Rattle.firthnapkin_results.specs.Sources.{IsUnread}
use Rattle.firthnapkin_results.specs.declared.source.Unread.{Unread}
use Rattle.firthnapkin_results.specs.declared.source.Unread.TheVariants as unread

-- ---- which lines

-- a line without a carriage return at its end
abbrev pub without_return : Text → Text
without_return [] = []
without_return (c ∷ []) = if c == 13 then [] else c ∷ []
without_return (c ∷ d ∷ line) = c ∷ without_return (d ∷ line)

-- the parts between line feeds, each without a carriage return directly before its line feed
abbrev pub ended : List Text → List Text
ended [] = []
ended (last ∷ []) = last ∷ []
ended (line ∷ next ∷ more) = without_return line ∷ ended (next ∷ more)

-- The lines of a source. A line feed ends each but the last, which may be empty.
abbrev pub lines : Text → List Text
lines source = ended (slice_split is_line_feed source)

-- the line with this number, from 1, if there is one
abbrev pub numbered : List Text → ℕ → Option Text
numbered lines zero = None
numbered lines (suc n) = slice_get lines n

-- A position's line with its number, from 1, the number of its characters before the position, and the lines above and
-- below it.
pub record Around : Type 0 where
  pub number : ℕ
  pub column : ℕ
  pub above : Option Text
  pub line : Text
  pub below : Option Text

abbrev pub around_position : List Text → Place → Around
around_position lines at = record {
  number = at.line + 1;
  column = at.column;
  above = numbered lines at.line;
  line = unwrap_or (numbered lines (at.line + 1)) [];
  below = numbered lines (at.line + 2);
}

-- the lines of a source around the position between these two parts of it
abbrev pub around : Text → Text → Around
around before after = around_position (lines (before ++ after)) (position_after before)

-- ---- what is shown of a line

abbrev pub is_long : Text → Bool
is_long line = nat_lt 120 (length line)

-- A long line is shown from 40 characters before a column on, or from its beginning.
abbrev pub first_shown : ℕ → Text → ℕ
first_shown column line = if is_long line then column - 40 else 0

-- Of a long line 80 characters are shown, or as many as there are.
abbrev pub part_shown : ℕ → Text → Text
part_shown column line = if is_long line then take 80 (drop (first_shown column line) line) else line

-- A carriage return is shown as a space.
abbrev pub visible : ℕ → ℕ
visible c = if c == 13 then 32 else c

-- ---- the rows

abbrev pub spaces : ℕ → Text
spaces count = replicate count 32

-- a label and a bar, aligned to the right
abbrev pub aligned : ℕ → Text → Text
aligned width label = spaces (width - length label) ++ (label ++ codes " |")

-- a text after a space, unless it is empty
abbrev pub after_bar : Text → Text
after_bar [] = []
after_bar (c ∷ text) = codes " " ++ c ∷ text

abbrev pub row : ℕ → Text → Text → Text
row width label text = aligned width label ++ after_bar text

-- a line with its number
abbrev pub line_row : ℕ → ℕ → ℕ → Text → Text
line_row width column number line = row width (decimal number) (map visible (part_shown column line))

-- a caret below a column of a line
abbrev pub caret_row : ℕ → ℕ → Text → Text
caret_row width column line = row width [] (spaces (column - first_shown column line) ++ codes "^")

abbrev pub row_above : ℕ → Around → Option Text → Text
row_above width a None = []
row_above width a (Some line) = line_row width a.column (a.number - 1) line ++ codes "\n"

abbrev pub row_below : ℕ → Around → Option Text → Text
row_below width a None = []
row_below width a (Some line) = codes "\n" ++ line_row width a.column (a.number + 1) line

-- The line above, the line, its caret and the line below, with a line feed between two of them.
abbrev pub shown : ℕ → Around → Text
shown width a =
    row_above width a a.above ++ (line_row width a.column a.number a.line ++ (codes "\n"
    ++ (caret_row width a.column a.line ++ row_below width a a.below)))

-- the largest number that is shown: each is as wide as this
abbrev pub last_number : Around → ℕ
last_number a = if is_some a.below then a.number + 1 else a.number

-- the excerpt of a source around the position between these two parts of it
abbrev pub excerpt : Text → Text → Text
excerpt before after = shown (length (decimal (last_number (around before after)))) (around before after)

-- ---- where there is one

-- A character of the source begins at this byte, or the source ends there: the bytes before it and those from it on are
-- both UTF-8.
pub record IsBorder (source : List ℕ) (byte : ℕ) : Type 0 where
  pub within : byte ≤ length source
  pub before : IsUtf8 (take byte source)
  pub after : IsUtf8 (drop byte source)

-- the excerpt of a source at this byte, in UTF-8
abbrev pub excerpt_bytes : List ℕ → ℕ → List ℕ
excerpt_bytes source byte = encode_utf8_all (excerpt (chars (take byte source)) (chars (drop byte source)))

-- the lines around that byte, or why there are none
abbrev pub ReturnsExcerpt : List ℕ → ℕ → Result (Option (String Global)) Unread → Type 0
ReturnsExcerpt source byte (Ok (Some lines)) = (length source < 2 ^ 32)
    × (IsUtf8 source × (IsBorder source byte × (string_bytes lines ≡ excerpt_bytes source byte)))
ReturnsExcerpt source byte (Ok None) = (length source < 2 ^ 32) × (IsUtf8 source × ¬ IsBorder source byte)
ReturnsExcerpt source byte (Err unread.OutOfMemory) =
    (length source < 2 ^ 32) × (IsUtf8 source × IsBorder source byte)
ReturnsExcerpt source byte (Err unread.NotUtf8) = IsUnread source unread.NotUtf8
ReturnsExcerpt source byte (Err unread.TooLong) = IsUnread source unread.TooLong
