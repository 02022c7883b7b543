-- Decimal numbers of three places.
use Rattle.std.specs.Prelude.{ℕ, ◌/◌, ◌%◌, [], ◌∷◌, ◌++◌, length, Bool, ◌==◌, ◌&&◌, if◌then◌else◌, codes, Option, Some, None, ℤ, pos, negsuc, neg_ℤ, int_le, unsigned_abs}
use Rattle.std.specs.Bool.{nat_le}
use Rattle.std.specs.Fmt.{decimal}
use Rattle.juniper_values.specs.Text.{Text}
use Rattle.juniper_values.specs.Integers.{is_digits, integer_of}

-- ---- from a text to a number

-- what stands before the first point, with its sign
abbrev pub whole : Text → Text
whole [] = []
whole (c ∷ cs) = if c == 46 then [] else c ∷ whole cs

-- what stands after the first point, if there is one
abbrev pub fraction : Text → Text
fraction [] = []
fraction (c ∷ cs) = if c == 46 then cs else fraction cs

abbrev pub without_minus : Text → Text
without_minus [] = []
without_minus (c ∷ cs) = if c == 45 then cs else c ∷ cs

-- a whole part of one or more digits, an optional leading `-`, and a fraction of one to three digits
abbrev pub is_decimal : Text → Text → Bool
is_decimal before after = is_digits (without_minus before) && is_digits after && nat_le (length after) 3

-- the zeros that fill one to three places up to three
abbrev pub zeros : ℕ → Text
zeros places = if places == 1 then codes "00" else if places == 2 then codes "0" else []

abbrev pub filled : Text → Text
filled places = places ++ zeros (length places)

-- the number that stands there without the point, with three places
abbrev pub thousandths : Text → Text → ℤ
thousandths before after = integer_of (before ++ filled after)

-- within the range of 64 bits
abbrev pub is_i64 : ℤ → Bool
is_i64 n = int_le (neg_ℤ (pos 9223372036854775808)) n && int_le n (pos 9223372036854775807)

-- the number of thousandths that two parts write, if it has 64 bits
abbrev pub thousandths_of : Text → Text → Option ℤ
thousandths_of before after = if is_decimal before after && is_i64 (thousandths before after) then Some (thousandths before after) else None

-- the same of the parts of a text: an optional `-`, one or more digits, a point, and one to three digits
abbrev pub thousandths_in : Text → Option ℤ
thousandths_in t = thousandths_of (whole t) (fraction t)

-- ---- from a number to a text

-- a whole part, a point, and three digits
abbrev pub with_places : ℕ → Text
with_places n = decimal (n / 1000) ++ (codes "." ++ (decimal (n % 1000 / 100) ++ (decimal (n % 100 / 10) ++ decimal (n % 10))))

abbrev pub sign : ℤ → Text
sign (pos n) = []
sign (negsuc n) = codes "-"

-- a number of thousandths, with a leading `-` where it is negative
abbrev pub milli_text : ℤ → Text
milli_text n = sign n ++ with_places (unsigned_abs n)
