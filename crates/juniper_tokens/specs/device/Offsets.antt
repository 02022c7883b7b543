-- A device: offsets between the characters of a text.
use Rattle.std.specs.Prelude.{◌≡◌, ℕ, zero, suc, ◌<◌, ◌≤◌, List, [], ◌∷◌, ◌++◌, length, take, drop}
use Rattle.juniper_tokens.specs.declared.lexer.text.Offset.{Offset}
use Rattle.juniper_tokens.specs.device.ByteRuns.{byte_at}

-- as many characters stand before it as it says
abbrev pub IsOffset : Offset → List ℕ → Type 0
IsOffset b cs = b.bytes ≡ byte_at b.characters cs

-- this many characters stand before it, or all where there are fewer
pub record IsOffsetAfter (count : ℕ) (cs : List ℕ) (b : Offset) : Type 0 where
  pub offset : IsOffset b cs
  pub front : take b.characters cs ≡ take count cs
  pub rest : drop b.characters cs ≡ drop count cs

-- this many quotes
abbrev pub quotes : ℕ → List ℕ
quotes zero = []
quotes (suc n) = 34 ∷ quotes n

-- the offset at which a text's prefix that is this many quotes, a text and as many quotes ends
pub record EndsQuoted (width : ℕ) (cs : List ℕ) (bytes characters : ℕ) : Type 0 where
  pub units : List ℕ
  pub whole : take characters cs ≡ quotes width ++ (units ++ quotes width)
  pub some : 0 < width
  pub within : characters ≤ length cs
  pub offset : bytes ≡ byte_at characters cs
