-- A device: names and numbers as their parts, which the scan goes over one after another.
use Rattle.std.specs.Prelude.{◌≡◌, ℕ, ◌<◌, ◌⊎◌, List, [], ◌∷◌, ◌++◌, length, IsTrue, codes}
use Rattle.std.specs.List.{AllByRecursion}
use Rattle.graphql_lexical.specs.Characters.{is_digit, is_nonzero_digit, is_name_start, is_name_character, is_exponent_mark, is_sign}
use Rattle.graphql_lexical.specs.Tokens.{IsZero}

-- a letter or `_`, then letters, digits and `_`
abbrev pub ReadName : List ℕ → Type 0
ReadName text = (c : ℕ) × (cs : List ℕ) × (text ≡ c ∷ cs) × IsTrue (is_name_start c) × AllByRecursion (λ d. IsTrue (is_name_character d)) cs

abbrev pub AnyDigits : List ℕ → Type 0
AnyDigits = AllByRecursion (λ d. IsTrue (is_digit d))

-- one or more digits
abbrev pub ReadDigits : List ℕ → Type 0
ReadDigits text = (0 < length text) × AnyDigits text

-- an optional `-`, a digit from 1 on, then any digits
abbrev pub ReadLongInteger : List ℕ → Type 0
ReadLongInteger text = (sign : List ℕ) × (d : ℕ) × (ds : List ℕ) × (text ≡ sign ++ d ∷ ds) × ((sign ≡ []) ⊎ (sign ≡ codes "-")) × IsTrue (is_nonzero_digit d) × AnyDigits ds

abbrev pub ReadInteger : List ℕ → Type 0
ReadInteger text = IsZero text ⊎ ReadLongInteger text

-- `.` and digits
abbrev pub ReadFraction : List ℕ → Type 0
ReadFraction text = (ds : List ℕ) × (text ≡ codes "." ++ ds) × ReadDigits ds

-- `e` or `E`, an optional sign, and digits
abbrev pub ReadExponent : List ℕ → Type 0
ReadExponent text = (e : ℕ) × (sign : List ℕ) × (ds : List ℕ) × (text ≡ e ∷ sign ++ ds) × IsTrue (is_exponent_mark e) × ((sign ≡ []) ⊎ ((s : ℕ) × (sign ≡ s ∷ []) × IsTrue (is_sign s))) × ReadDigits ds

-- an integer part, then a fraction, an exponent, or both
abbrev pub ReadFloat : List ℕ → Type 0
ReadFloat text = (whole : List ℕ) × (fraction : List ℕ) × (exponent : List ℕ) × (text ≡ whole ++ (fraction ++ exponent)) × ReadInteger whole × ((ReadFraction fraction × (exponent ≡ [])) ⊎ (((fraction ≡ []) ⊎ ReadFraction fraction) × ReadExponent exponent))
