-- What `parse` reads of a whole part and three places.
use Rattle.std.proofs.Common.{◌≡◌, refl, sym, ap, subst, ℕ, ◌<◌, ◌≤◌, Bool, true, false, ◌&&◌, [], ◌∷◌, ◌++◌, ◌==◌, length, Some, None, Result, Ok, Err, ℤ, pos, neg_ℤ, rules, arith, true≢false, length-append}
use Rattle.std.specs.Bool.{Decides}
use Rattle.std.specs.Cmp.{first_so, second_so}
use Rattle.std.specs.Prelude.{if◌then◌else◌}
use Rattle.std.specs.Char.{is_ascii_digit}
use Rattle.std.specs.Str.{all_ascii_digits}
use Rattle.std.specs.Str.Parse.{ParsesSigned}
use Rattle.std.specs.Result.{OkIff, result_ok}
use Rattle.std.proofs.lemmas.Bool.{and_from}
use Rattle.std.proofs.lemmas.Bool.Decides.{nat_tests}
use Rattle.std.proofs.lemmas.Int.{ints}
use Rattle.std.proofs.lemmas.Str.Parse.{IsNumeralModel, numerals_by_fold, tells_all_ascii_digits, parse_signed_minus, parse_signed_plain}
use mir.Syntax.{w64}
use Rattle.juniper_values.specs.Text.{Text}
use Rattle.juniper_values.specs.Integers.{is_digits, number_after, number_of, integer_of}
use Rattle.juniper_odd.specs.Decimals.{without_minus, zeros, filled, is_decimal, is_i64, thousandths, thousandths_of}

pub own : IsNumeralModel (λ ds. all_ascii_digits ds ≡ true) number_of
own = numerals_by_fold (λ ds. all_ascii_digits ds ≡ true) tells_all_ascii_digits number_after (search rules)

pub some_digits : (ds : Text) → Decides (is_digits ds) ((all_ascii_digits ds ≡ true) × (0 < length ds))
some_digits [] = ((λ e. absurd (true≢false (sym e))), (λ h. absurd (omega (arith, h.1))))
some_digits (c ∷ cs) = ((λ e. (e, omega arith)), (λ h. h.0))

-- ---- digits

pub all_joined : (a b : Text) → all_ascii_digits a ≡ true → all_ascii_digits b ≡ true → all_ascii_digits (a ++ b) ≡ true
all_joined [] b h k = k
all_joined (c ∷ cs) b h k = and_from (is_ascii_digit c) _ (first_so (is_ascii_digit c) _ h)
    (all_joined cs b (second_so (is_ascii_digit c) _ h) k)

zeros_are_digits : (n : ℕ) → all_ascii_digits (zeros n) ≡ true
zeros_are_digits n = by_tests (n == 1) (n == 2)
  where
    by_tests : (a b : Bool) → all_ascii_digits (if a then 48 ∷ 48 ∷ [] else if b then 48 ∷ [] else []) ≡ true
    by_tests true b = refl
    by_tests false true = refl
    by_tests false false = refl

-- ---- tests

pub negative_i64 : (n : ℕ) → Decides (is_i64 (neg_ℤ (pos n))) (n ≤ 9223372036854775808)
negative_i64 n = ((λ e. grind (arith, ints, nat_tests)), (λ h. grind (arith, ints, nat_tests)))

pub positive_i64 : (n : ℕ) → Decides (is_i64 (pos n)) (n < 9223372036854775808)
positive_i64 n = ((λ e. grind (arith, ints, nat_tests)), (λ h. grind (arith, ints, nat_tests)))

-- ---- a whole part and three places, read as one integer

module _ {E : Type 0} where
  abbrev Reads : Text → Result ℤ E → Type 0
  Reads t r = OkIff r (is_i64 (integer_of t) ≡ true) (integer_of t)

  same_premise : (r : Result ℤ E) (P Q : Type 0) (v : ℤ) → (P → Q) → (Q → P) → OkIff r P v → OkIff r Q v
  same_premise (Ok x) P Q v f g h = (f h.0, h.1)
  same_premise (Err e) P Q v f g h = λ q. h (g q)

  by_digits : (r : Result ℤ E) (ds : Text) (b : Bool) (P : Type 0) (v : ℤ) → Decides b P → all_ascii_digits ds ≡ true
      → 0 < length ds
      → OkIff r ((all_ascii_digits ds ≡ true) × (0 < length ds) × P) v → OkIff r (b ≡ true) v
  by_digits r ds b P v d k l h = same_premise r _ _ v (λ p. d.1 p.2) (λ e. (k, l, d.0 e)) h

  at_minus : (ds : Text) (r : Result ℤ E) → all_ascii_digits ds ≡ true → 0 < length ds → ParsesSigned w64 10 (45 ∷ ds) r
      → Reads (45 ∷ ds) r
  at_minus ds r k l h = by_digits r ds _ _ _ (negative_i64 (number_of ds)) k l
      (parse_signed_minus own w64 (45 ∷ ds) r h refl)

  at_digit : (c : ℕ) (cs : Text) (r : Result ℤ E) → all_ascii_digits (c ∷ cs) ≡ true → ParsesSigned w64 10 (c ∷ cs) r
      → Reads (c ∷ cs) r
  at_digit c cs r k h =
      let digit = first_so (is_ascii_digit c) _ k in
      let no_minus : (c == 45) ≡ false = grind (arith, nat_tests) in
      let no_plus : (c == 43) ≡ false = grind (arith, nat_tests) in
      rw (no_minus, no_plus) (by_digits r (c ∷ cs) _ _ _ (positive_i64 (number_of (c ∷ cs))) k (omega arith)
      (parse_signed_plain own w64 (c ∷ cs) r h (grind (arith, nat_tests)) (grind (arith, nat_tests))))

  reads : (before places : Text) (r : Result ℤ E) → is_digits (without_minus before) ≡ true
      → all_ascii_digits places ≡ true
      → ParsesSigned w64 10 (before ++ places) r → Reads (before ++ places) r
  reads [] places r d k h = absurd (true≢false (sym d))
  reads (c ∷ cs) places r d k h = by_sign (c == 45) refl d
    where
      by_sign : (b : Bool) → (c == 45) ≡ b → is_digits (if b then cs else c ∷ cs) ≡ true → Reads (c ∷ cs ++ places) r
      by_sign true e d =
          let is : 45 ≡ c = grind (arith, nat_tests) in
          let s = (some_digits cs).0 d in
          subst (λ x. ParsesSigned w64 10 (x ∷ (cs ++ places)) r → Reads (x ∷ (cs ++ places)) r) is
          (at_minus (cs ++ places) r (all_joined cs places s.0 k) (omega (arith, s.1, length-append cs places))) h
      by_sign false e d = at_digit c (cs ++ places) r (all_joined (c ∷ cs) places d k) h

ok_as_some : {E : Type 0} (r : Result ℤ E) (b : Bool) (v : ℤ) → OkIff r (b ≡ true) v
    → result_ok r ≡ (if b then Some v else None)
ok_as_some (Ok z) true v h = ap Some h.1
ok_as_some (Ok z) false v h = absurd (true≢false (sym h.0))
ok_as_some (Err e) true v h = absurd (h refl)
ok_as_some (Err e) false v h = refl

pub read : {E : Type 0} (before after : Text) (r : Result ℤ E) → is_decimal before after ≡ true
    → ParsesSigned w64 10 (before ++ filled after) r
    → result_ok r ≡ thousandths_of before after
read before after r e h =
    let parts = first_so (is_digits (without_minus before) && is_digits after) _ e in
    let d = first_so (is_digits (without_minus before)) _ parts in
    let k = ((some_digits after).0 (second_so (is_digits (without_minus before)) _ parts)).0 in
    rw e (ok_as_some r (is_i64 (thousandths before after)) (thousandths before after)
    (reads before (filled after) r d (all_joined after (zeros (length after)) k (zeros_are_digits (length after)))
    h))
