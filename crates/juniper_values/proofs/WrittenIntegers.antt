-- What is shown of an integer of 32 bits is an Int, and is read as the integer.
use Rattle.std.proofs.Common.{◌≡◌, refl, ap, ◌∙◌, ℕ, zero, suc, ◌<◌, ◌≤◌, ◌⊎◌, ◌^◌, inl, inr, true, false, [], ◌∷◌, ◌++◌, get_or, Ok, ℤ, pos, negsuc, neg_ℤ, IsTrue, decimal, arith}
use Rattle.std.specs.Fmt.{signed_decimal}
use Rattle.std.specs.Str.Parse.{AllDigits}
use Rattle.std.proofs.lemmas.Bool.{and_from}
use Rattle.std.proofs.lemmas.Bool.Decides.{nat_tests}
use Rattle.std.proofs.lemmas.Fmt.{decimal_is_IsNumeral, decimal_digit, first_decimal, digits_decimal, digits_value-decimal}
use Rattle.std.proofs.lemmas.Str.Parse.{digit_from_value}
use Rattle.graphql_lexical.specs.Characters.{is_digit, is_nonzero_digit}
use Rattle.graphql_lexical.specs.Tokens.{Any, IsInteger}
use Rattle.graphql_lexical.specs.device.Numbers.{ReadLongInteger}
use Rattle.graphql_lexical.proofs.Public.{integer_same}
use Rattle.juniper_values.specs.Text.{Text}
use Rattle.juniper_values.specs.Scalar.{integer}
use Rattle.juniper_values.specs.Integers.{is_digits, number_of, has_minus, after_sign, is_integer, integer_of, is_i32}
use Rattle.juniper_values.specs.Default.{int_reading}
use Rattle.juniper_values.proofs.Integers.{own, some_digits, negative_i32, positive_i32, if_read}

positive_small : (n : ℕ) → IsTrue (is_i32 (pos n)) → n < 2 ^ 64
positive_small n h = omega (arith, (positive_i32 n).0 h)

negative_small : (n : ℕ) → IsTrue (is_i32 (negsuc n)) → suc n < 2 ^ 64
negative_small n h = omega (arith, (negative_i32 (suc n)).0 h)

digit_is : (c : ℕ) → 48 ≤ c → c ≤ 57 → IsTrue (is_digit c)
digit_is c l u = grind (arith, nat_tests)

nonzero_is : (c : ℕ) → 48 < c → c ≤ 57 → IsTrue (is_nonzero_digit c)
nonzero_is c l u = grind (arith, nat_tests)

are_digits : (ds : Text) → AllDigits 10 ds → Any is_digit ds
are_digits [] d = tt
are_digits (c ∷ cs) d = let k = digit_from_value c d.0 in (digit_is c k.0 k.1, are_digits cs d.1)

digits_are_long : (sign ds : Text) → (sign ≡ []) ⊎ (sign ≡ 45 ∷ []) → 48 < get_or ds 0 0 → AllDigits 10 ds
    → ReadLongInteger (sign ++ ds)
digits_are_long sign [] s f d = absurd (omega arith)
digits_are_long sign (c ∷ cs) s f d =
    let k = digit_from_value c d.0 in
    (sign, c, cs, refl, s, nonzero_is c f k.1, are_digits cs d.1)

decimal_is_long : (sign : Text) (n : ℕ) → (sign ≡ []) ⊎ (sign ≡ 45 ∷ []) → suc n < 2 ^ 64
    → ReadLongInteger (sign ++ decimal (suc n))
decimal_is_long sign n s h = digits_are_long sign (decimal (suc n)) s (first_decimal (suc n) (omega arith) h)
    (decimal_is_IsNumeral (suc n) h).0.1

pub spells_integer : (z : ℤ) → IsTrue (is_i32 z) → IsInteger (signed_decimal z)
spells_integer (pos zero) h = (integer_same _).1 (inl (inl (decimal_digit 0 (omega arith))))
spells_integer (pos (suc n)) h =
    (integer_same _).1 (inr (decimal_is_long [] n (inl refl) (positive_small (suc n) h)))
spells_integer (negsuc n) h =
    (integer_same _).1 (inr (decimal_is_long (45 ∷ []) n (inr refl) (negative_small n h)))

-- ---- and back

written_digits : (n : ℕ) → n < 2 ^ 64 → is_digits (decimal n) ≡ true
written_digits n h = (some_digits (decimal n)).1 (digits_decimal own n h, (decimal_is_IsNumeral n h).0.0)

written_number : (n : ℕ) → n < 2 ^ 64 → number_of (decimal n) ≡ n
written_number n h = digits_value-decimal own n h

no_sign : (ds : Text) → AllDigits 10 ds → (has_minus ds ≡ false) × (after_sign ds ≡ ds)
no_sign [] d = (refl, refl)
no_sign (c ∷ cs) d = let k = digit_from_value c d.0 in (no_minus c k.0, unsigned c k.0 cs)
  where
    no_minus : (c : ℕ) → 48 ≤ c → has_minus (c ∷ cs) ≡ false
    no_minus c l = grind (arith, nat_tests)

    unsigned : (c : ℕ) → 48 ≤ c → (cs : Text) → after_sign (c ∷ cs) ≡ c ∷ cs
    unsigned c l cs = grind (arith, nat_tests)

pub integer_read_back : (z : ℤ) → IsTrue (is_i32 z) → int_reading (signed_decimal z) ≡ Ok (integer z)
integer_read_back (pos n) h =
    let small = positive_small n h in
    let sign = no_sign (decimal n) (decimal_is_IsNumeral n small).0.1 in
    let digits : is_integer (decimal n) ≡ true = ap is_digits sign.1 ∙ written_digits n small in
    let number : integer_of (decimal n) ≡ pos n = rw (sign.0, sign.1, written_number n small) refl in
    if_read (decimal n) (and_from (is_integer (decimal n)) _ digits (ap is_i32 number ∙ h))
    ∙ ap (λ z. Ok (integer z)) number
integer_read_back (negsuc n) h =
    let small = negative_small n h in
    let number : integer_of (45 ∷ decimal (suc n)) ≡ negsuc n =
    ap (λ m. neg_ℤ (pos m)) (written_number (suc n) small) in
    if_read (45 ∷ decimal (suc n)) (and_from (is_integer (45 ∷ decimal (suc n))) _ (written_digits (suc n) small)
    (ap is_i32 number ∙ h)) ∙ ap (λ z. Ok (integer z)) number
