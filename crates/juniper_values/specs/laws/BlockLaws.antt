-- What the laws of block strings say.
use Rattle.std.specs.Prelude.{◌≡◌, ℕ, true, false, List, [], ◌∷◌, ◌++◌, length}
use Rattle.juniper_values.specs.Text.{Text}
use Rattle.juniper_values.specs.BlockStrings.{with_quotes, lines, is_blank}

-- the first line of the text and the last one have a character other than tabs and spaces
pub record HasNoBlankEnds (t : Text) : Type 0 where
  pub first : (line : Text) (others : List Text) → lines t ≡ line ∷ others → is_blank line ≡ false
  pub last : (others : List Text) (line : Text) → lines t ≡ others ++ line ∷ [] → is_blank line ≡ false

-- the second lines are the first ones, each after n more tabs and spaces; an empty one may stay empty
pub data AreIndented (n : ℕ) : List Text → List Text → Type 0 where
  none : AreIndented n [] []
  empty : (ls ms : List Text) → AreIndented n ls ms → AreIndented n ([] ∷ ls) ([] ∷ ms)
  after_white : (white line : Text) (ls ms : List Text) → length white ≡ n → is_blank white ≡ true → AreIndented n ls ms
      → AreIndented n (line ∷ ls) ((white ++ line) ∷ ms)

-- the same of two texts, and of every line but the first
pub record IsIndented (n : ℕ) (t u : Text) : Type 0 where
  pub first : Text
  pub old : List Text
  pub new : List Text
  pub before : lines (with_quotes t) ≡ first ∷ old
  pub after : lines (with_quotes u) ≡ first ∷ new
  pub indented : AreIndented n old new
