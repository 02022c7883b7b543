-- A device: where lines begin, in bytes and in characters.
use Rattle.std.specs.Prelude.{◌≡◌, ◌≤◌, ℕ, List, [], ◌∷◌, length, take, All}
use Rattle.std.specs.Str.{encode_utf8_all}
use Rattle.juniper_tokens.specs.declared.lexer.text.Offset.{Offset}

-- so many bytes are before so many characters of the source
pub record IsWithin (source : List ℕ) (o : Offset) : Type 0 where
  pub within : o.characters ≤ length source
  pub bytes : o.bytes ≡ length (encode_utf8_all (take o.characters source))

abbrev pub AreWithin : List ℕ → List Offset → Type 0
AreWithin source = All (IsWithin source)

-- the first is at the beginning
abbrev pub BeginsFirst : List Offset → Type 0
BeginsFirst [] = ⊥
BeginsFirst (o ∷ os) = o.characters ≡ 0
