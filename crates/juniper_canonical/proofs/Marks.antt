-- The characters of what stands around and between texts.
use Rattle.std.proofs.Common.{◌≡◌, [], ◌∷◌, refl}
use Rattle.std.specs.Str.{chars}

pub chars_quote : chars (34 ∷ []) ≡ 34 ∷ []
unfolding chars
chars_quote = refl

pub chars_mark : chars (34 ∷ 34 ∷ 34 ∷ []) ≡ 34 ∷ 34 ∷ 34 ∷ []
unfolding chars
chars_mark = refl
