-- Where the lines of a source begin.
use Rattle.std.specs.Prelude.{◌≡◌, ℕ, ◌+◌, ◌<◌, ◌≤◌, List, [], ◌∷◌, length, nat_le, ◌==◌, if◌then◌else◌, Option, Some, None, slice_get}
use Rattle.graphql_lexical.specs.Place.{Place, place}

-- at which characters the lines begin, and how many characters there are
pub record Lines : Type 0 where
  pub starts : List ℕ
  pub count : ℕ

-- the lines that begin after these characters, which are character k and those after it
abbrev pub starts_after : ℕ → List ℕ → List ℕ
starts_after k [] = []
starts_after k (c ∷ cs) = if c == 10 then (k + 1) ∷ starts_after (k + 1) cs else starts_after (k + 1) cs

abbrev pub lines_of : List ℕ → Lines
lines_of source = record { starts = 0 ∷ starts_after 0 source; count = length source }

-- The table is that of some source.
pub record IsTable (table : Lines) : Type 0 where
  pub source : List ℕ
  pub is : table ≡ lines_of source

-- place k of a source, where there is such a place
abbrev pub place_within : List ℕ → ℕ → Option Place
place_within source k = if nat_le k (length source) then Some (place source k) else None

-- each number is above the one before it
abbrev pub AscendFrom : ℕ → List ℕ → Type 0
AscendFrom k [] = Unit {0}
AscendFrom k (s ∷ ss) = (k < s) × AscendFrom s ss

-- the first line begins with the source, and each further one after the beginning of the one before it
abbrev pub StartLines : List ℕ → Type 0
StartLines [] = ⊥
StartLines (s ∷ ss) = (s ≡ 0) × AscendFrom s ss

-- Character k stands on line l, which begins at this character.
pub record IsOnLine (starts : List ℕ) (k l start : ℕ) : Type 0 where
  pub begins : slice_get starts l ≡ Some start
  pub before : start ≤ k
  pub after : (next : ℕ) → slice_get starts (l + 1) ≡ Some next → k < next
