-- What a table from characters to bytes returns.
use Rattle.std.specs.Prelude.{◌≡◌, ◌<◌, ◌≤◌, ℕ, suc, min, if◌then◌else◌, List, [], ◌∷◌, length, take, Option, Some, None, slice_get, slice_index}
use Rattle.std.specs.Option.{unwrap_or}
use Rattle.std.specs.Global.{Vec}
use Rattle.std.specs.Vec.{vec_len, vec_capacity}
use Rattle.juniper_tokens.specs.device.ByteRuns.{is_inner}
use Rattle.firthnapkin_results.specs.declared.byte_table.ByteTable.{ByteTable}
use Rattle.firthnapkin_results.specs.Positions.{bytes_before}

abbrev pub byte_from : Option (Vec ℕ) → ℕ → ℕ → ℕ
byte_from None length index = min index length
byte_from (Some starts) length index = unwrap_or (slice_get starts.items index) length

abbrev pub byte_in : ByteTable → ℕ → ℕ
byte_in table index = byte_from table.starts table.length index

-- the table returns for each index what the source has
abbrev pub IsTableOf : List ℕ → ByteTable → Type 0
IsTableOf source table = (index : ℕ) → byte_in table index ≡ bytes_before source index

-- A device: where the characters of these bytes begin, the first byte being at a place.
abbrev pub starts_in : ℕ → List ℕ → List ℕ
starts_in at [] = []
starts_in at (b ∷ bs) = if is_inner b then starts_in (suc at) bs else at ∷ starts_in (suc at) bs

-- A device: each byte between two places is ASCII.
abbrev pub AreAscii : List ℕ → ℕ → ℕ → Type 0
AreAscii bytes from to = (k : ℕ) → from ≤ k → k < to → slice_index bytes k < 128

-- A device: a list has where the characters of the bytes before a place begin, and capacity for one at each byte.
pub record HasStarts (bytes : List ℕ) (at : ℕ) (starts : Vec ℕ) : Type 0 where
  pub begun : starts.items ≡ starts_in 0 (take at bytes)
  pub few : vec_len starts ≤ at
  pub capacity : length bytes ≤ vec_capacity starts
