-- The characters of fixed texts.
use Rattle.std.proofs.Common.{◌≡◌, ℕ, zero, suc, ◌<◌, [], ◌∷◌, refl, arith}
use Rattle.std.specs.List.{slice_index}
use Rattle.std.specs.Str.{chars}
use Rattle.std.proofs.lemmas.Str.{chars-nil, chars-IsAscii}

pub chars_one : (c : ℕ) → c < 128 → chars (c ∷ []) ≡ c ∷ []
chars_one c l = chars-IsAscii (c ∷ []) below
  where
    below : (i : ℕ) → slice_index (c ∷ []) i < 128
    below zero = l
    below (suc i) = omega arith

pub chars_ellipsis : chars (46 ∷ 46 ∷ 46 ∷ []) ≡ 46 ∷ 46 ∷ 46 ∷ []
unfolding chars
chars_ellipsis = refl

pub ruleset fixed_texts = (chars_one, chars_ellipsis, chars-nil)
