-- What the text of a String token stands for, unit by unit.
use Rattle.std.specs.Prelude.{◌≡◌, ◌≢◌, ℕ, [], ◌∷◌, Some}
use Rattle.graphql_lexical.specs.Tokens.{AreScalarDigits}
use Rattle.juniper_values.specs.Text.{Text}
use Rattle.juniper_values.specs.Escapes.{short_escape, hex_number}

-- The first text stands for the second: a character other than the backslash for itself, a backslash and one of eight
-- characters for what the table says, and `\u` and four hexadecimal digits for the character of that number.
pub data StandsFor : Text → Text → Type 0 where
  nothing : StandsFor [] []
  itself : (c : ℕ) (t u : Text) → c ≢ 92 → StandsFor t u → StandsFor (c ∷ t) (c ∷ u)
  escape : (c d : ℕ) (t u : Text) → short_escape c ≡ Some d → StandsFor t u → StandsFor (92 ∷ c ∷ t) (d ∷ u)
  unicode : (h i j k : ℕ) (t u : Text) → AreScalarDigits h i j k → StandsFor t u
      → StandsFor (92 ∷ 117 ∷ h ∷ i ∷ j ∷ k ∷ t) (hex_number h i j k ∷ u)
