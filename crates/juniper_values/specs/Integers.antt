-- Integers as they are written.
use Rattle.std.specs.Prelude.{ℕ, ◌+◌, ◌*◌, ◌-◌, [], ◌∷◌, Bool, false, ◌==◌, ◌&&◌, ◌||◌, if◌then◌else◌, ℤ, pos, neg_ℤ, int_le}
use Rattle.std.specs.Str.{all_ascii_digits}
use Rattle.juniper_values.specs.Text.{Text}

-- one or more of the digits 0 to 9
abbrev pub is_digits : Text → Bool
is_digits [] = false
is_digits (c ∷ cs) = all_ascii_digits (c ∷ cs)

-- the number that digits write after those of n
abbrev pub number_after : ℕ → Text → ℕ
number_after n [] = n
number_after n (c ∷ cs) = number_after (10 * n + (c - 48)) cs

-- the number that digits write, in base ten
abbrev pub number_of : Text → ℕ
number_of digits = number_after 0 digits

abbrev pub has_minus : Text → Bool
has_minus [] = false
has_minus (c ∷ cs) = c == 45

-- what stands after a leading `+` or `-`, if there is one
abbrev pub after_sign : Text → Text
after_sign [] = []
after_sign (c ∷ cs) = if c == 43 || c == 45 then cs else c ∷ cs

-- an optional sign, and digits
abbrev pub is_integer : Text → Bool
is_integer t = is_digits (after_sign t)

-- the number that a sign and digits write
abbrev pub integer_of : Text → ℤ
integer_of t = if has_minus t then neg_ℤ (pos (number_of (after_sign t))) else pos (number_of (after_sign t))

-- within the range of 32 bits
abbrev pub is_i32 : ℤ → Bool
is_i32 n = int_le (neg_ℤ (pos 2147483648)) n && int_le n (pos 2147483647)
