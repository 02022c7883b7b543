-- A device: a table of lines, character by character.
use Rattle.std.specs.Prelude.{◌≡◌, ℕ, ◌+◌, ◌<◌, ◌≤◌, ◌==◌, if◌then◌else◌, List, [], ◌∷◌, ◌++◌, take, Some, slice_get}
use Rattle.juniper_tokens.specs.LineTables.{Lines, starts_after}
use Rattle.juniper_tokens.specs.declared.line.Line.{Line}
use Rattle.juniper_tokens.specs.declared.line_table.LineStarts.{LineStarts}
use Rattle.juniper_tokens.specs.device.Offsets.{IsOffset}

-- a table of these beginnings and this many characters
abbrev pub made_table : List ℕ → ℕ → Lines
made_table starts count = record { starts = starts; count = count }

-- this many characters more on the last line
abbrev pub longer : ℕ → Lines → Lines
longer k t = record { starts = t.starts; count = t.count + k }

-- a line feed more
abbrev pub one_line : Lines → Lines
one_line t = record { starts = t.starts ++ (t.count + 1) ∷ []; count = t.count + 1 }

-- one character more
abbrev pub past : Lines → ℕ → Lines
past t c = if c == 10 then one_line t else longer 1 t

-- these are the beginnings of the lines of the first characters of a source
abbrev pub AreStarts : List ℕ → List ℕ → ℕ → Type 0
AreStarts starts source k = starts ≡ 0 ∷ starts_after 0 (take k source)

-- they are those up to an offset of the source
pub record CountsLines (source : List ℕ) (lines : LineStarts) : Type 0 where
  pub offset : IsOffset lines.at source
  pub counted : AreStarts lines.starts.items source lines.at.characters

-- they are as many up to character k
pub record HasLines (source : List ℕ) (lines : LineStarts) (k : ℕ) : Type 0 where
  pub counts : CountsLines source lines
  pub before : lines.at.characters ≤ k
  pub so_far : AreStarts lines.starts.items source k

-- This line is one of those that begin at these characters.
pub record IsLine (starts : List ℕ) (line : Line) : Type 0 where
  pub begins : slice_get starts line.number ≡ Some line.start
  pub ends : (next : ℕ) → slice_get starts (line.number + 1) ≡ Some next → line.end ≡ next

-- Character k stands before the line of this number, if there is such a line.
abbrev pub IsBefore : List ℕ → ℕ → ℕ → Type 0
IsBefore starts k number = (next : ℕ) → slice_get starts number ≡ Some next → k < next
