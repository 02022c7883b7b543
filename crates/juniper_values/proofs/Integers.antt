-- What `parse` reads as an integer is what the default scalar reads as one.
use Rattle.std.proofs.Common.{◌≡◌, ◌⊎◌, inl, inr, refl, sym, ap, ◌∙◌, subst, ℕ, zero, suc, ◌<◌, ◌≤◌, Bool, true, false, ◌&&◌, List, [], ◌∷◌, length, Result, Ok, Err, ℤ, pos, neg_ℤ, rules, arith, true≢false, ◌==◌}
use Rattle.std.specs.Bool.{Decides}
use Rattle.std.specs.Cmp.{first_so, second_so}
use Rattle.std.specs.Prelude.{if◌then◌else◌, ◌||◌}
use Rattle.std.specs.Str.{chars, IsUtf8, IsAscii, all_ascii_digits}
use Rattle.std.specs.Str.Parse.{ParsesSigned}
use Rattle.std.specs.Result.{OkIff}
use Rattle.std.proofs.lemmas.Bool.{and_from}
use Rattle.std.proofs.lemmas.Bool.Decides.{nat_tests}
use Rattle.std.proofs.lemmas.Fmt.{IsAscii-from_digits}
use Rattle.std.proofs.lemmas.Int.{ints, to_z-of_z}
use Rattle.std.proofs.lemmas.Str.{chars-IsAscii, encodes-IsAscii, encodes-chars}
use Rattle.std.proofs.lemmas.Str.Parse.{IsNumeralModel, numerals_by_fold, tells_all_ascii_digits, parse_signed_minus, parse_signed_plus, parse_signed_plain}
use mir.Syntax.{w32}
use mir.Val.{SFits, to_z, of_z}
use Rattle.juniper_tokens.specs.Errors.{UnexpectedToken}
use Rattle.juniper_values.specs.Text.{Text}
use Rattle.juniper_values.specs.Scalar.{integer}
use Rattle.juniper_values.specs.Integers.{is_digits, number_after, number_of, is_integer, integer_of, is_i32}
use Rattle.juniper_values.specs.Default.{int_reading}

pub own : IsNumeralModel (λ ds. all_ascii_digits ds ≡ true) number_of
own = numerals_by_fold (λ ds. all_ascii_digits ds ≡ true) tells_all_ascii_digits number_after (search rules)

-- ---- tests

pub negative_i32 : (n : ℕ) → Decides (is_i32 (neg_ℤ (pos n))) (n ≤ 2147483648)
negative_i32 n = ((λ e. grind (arith, ints, nat_tests)), (λ h. grind (arith, ints, nat_tests)))

pub positive_i32 : (n : ℕ) → Decides (is_i32 (pos n)) (n < 2147483648)
positive_i32 n = ((λ e. grind (arith, ints, nat_tests)), (λ h. grind (arith, ints, nat_tests)))

pub some_digits : (ds : Text) → Decides (is_digits ds) ((all_ascii_digits ds ≡ true) × (0 < length ds))
some_digits [] = ((λ e. absurd (true≢false (sym e))), (λ h. absurd (omega (arith, h.1))))
some_digits (c ∷ cs) = ((λ e. (e, omega arith)), (λ h. h.0))

-- ---- a text that is an integer

module _ {E : Type 0} where
  abbrev Reads : Text → Result ℤ E → Type 0
  Reads t r = OkIff r ((is_integer t && is_i32 (integer_of t)) ≡ true) (integer_of t)

  same_premise : (r : Result ℤ E) (P Q : Type 0) (v : ℤ) → (P → Q) → (Q → P) → OkIff r P v → OkIff r Q v
  same_premise (Ok x) P Q v f g h = (f h.0, h.1)
  same_premise (Err e) P Q v f g h = λ q. h (g q)

  by_digits : (r : Result ℤ E) (ds : Text) (b : Bool) (P : Type 0) (v : ℤ) → Decides b P
      → OkIff r ((all_ascii_digits ds ≡ true) × (0 < length ds) × P) v → OkIff r ((is_digits ds && b) ≡ true) v
  by_digits r ds b P v d h =
      same_premise r _ _ v
      (λ p. and_from (is_digits ds) b ((some_digits ds).1 (p.0, p.1)) (d.1 p.2))
      (λ e. let k = (some_digits ds).0 (first_so (is_digits ds) b e) in (k.0, k.1, d.0 (second_so (is_digits ds) b e)))
      h

  at_minus : (cs : Text) (r : Result ℤ E) → ParsesSigned w32 10 (45 ∷ cs) r → Reads (45 ∷ cs) r
  at_minus cs r h = by_digits r cs _ _ _ (negative_i32 (number_of cs)) (parse_signed_minus own w32 (45 ∷ cs) r h refl)

  at_plus : (cs : Text) (r : Result ℤ E) → ParsesSigned w32 10 (43 ∷ cs) r → Reads (43 ∷ cs) r
  at_plus cs r h = by_digits r cs _ _ _ (positive_i32 (number_of cs)) (parse_signed_plus own w32 (43 ∷ cs) r h refl)

  at_digit : (c : ℕ) (cs : Text) (r : Result ℤ E) → (c == 45) ≡ false → (c == 43) ≡ false
      → ParsesSigned w32 10 (c ∷ cs) r → Reads (c ∷ cs) r
  at_digit c cs r e f h =
      rw (e, f) (by_digits r (c ∷ cs) _ _ _ (positive_i32 (number_of (c ∷ cs)))
      (parse_signed_plain own w32 (c ∷ cs) r h (grind (arith, nat_tests)) (grind (arith, nat_tests))))

  at_nothing : (r : Result ℤ E) → ParsesSigned w32 10 [] r → Reads [] r
  at_nothing (Ok x) h = absurd (omega (arith, h.0.0.0))
  at_nothing (Err e) h = λ q. absurd (true≢false (sym q))

  reads : (bs : Text) (r : Result ℤ E) → ParsesSigned w32 10 bs r → Reads bs r
  reads [] r h = at_nothing r h
  reads (c ∷ cs) r h = by_sign (c == 45) (c == 43) refl refl
    where
      by_sign : (m p : Bool) → (c == 45) ≡ m → (c == 43) ≡ p → Reads (c ∷ cs) r
      by_sign true p e f = let is : 45 ≡ c = grind (arith, nat_tests) in
          subst (λ d. ParsesSigned w32 10 (d ∷ cs) r → Reads (d ∷ cs) r) is (at_minus cs r) h
      by_sign false true e f = let is : 43 ≡ c = grind (arith, nat_tests) in
          subst (λ d. ParsesSigned w32 10 (d ∷ cs) r → Reads (d ∷ cs) r) is (at_plus cs r) h
      by_sign false false e f = at_digit c cs r e f h

  fits : (bs : Text) (z : ℤ) (r : Result ℤ E) → ParsesSigned w32 10 bs r → r ≡ Ok z → SFits w32 z
  fits bs z (Ok x) h e = let same : x ≡ z = cc in subst (SFits w32) (sym h.1 ∙ same) h.0.1
  fits bs z (Err x) h e = absurd (cc)

-- ---- from bytes to characters

in_front : (c : ℕ) (cs : Text) → c < 128 → IsAscii cs → IsAscii (c ∷ cs)
in_front c cs h k zero = h
in_front c cs h k (suc i) = k i

digits_are_ascii : (ds : Text) → is_digits ds ≡ true → IsAscii ds
digits_are_ascii ds e = IsAscii-from_digits ds (own.to ds ((some_digits ds).0 e).0)

integers_are_ascii : (t : Text) → is_integer t ≡ true → IsAscii t
integers_are_ascii [] e = absurd (true≢false (sym e))
integers_are_ascii (c ∷ cs) e = by_sign (c == 43 || c == 45) e (λ s. grind (arith, nat_tests))
  where
    by_sign : (b : Bool) → is_digits (if b then cs else c ∷ cs) ≡ true → (b ≡ true → c < 128) → IsAscii (c ∷ cs)
    by_sign true e h = in_front c cs (h refl) (digits_are_ascii cs e)
    by_sign false e h = digits_are_ascii (c ∷ cs) e

-- an integer's characters are its bytes
same_chars : (bs : List ℕ) → IsUtf8 bs → (is_integer bs ≡ true) ⊎ (is_integer (chars bs) ≡ true) → chars bs ≡ bs
same_chars bs u (inl e) = chars-IsAscii bs (integers_are_ascii bs e)
same_chars bs u (inr e) = sym (encodes-IsAscii (chars bs) (integers_are_ascii (chars bs) e)) ∙ encodes-chars bs u

abbrev pub is_read : Text → Bool
is_read t = is_integer t && is_i32 (integer_of t)

pub if_read : (t : Text) → is_read t ≡ true → int_reading t ≡ Ok (integer (integer_of t))
if_read t e = rw e

unless_read : (t : Text) → is_read t ≡ false → int_reading t ≡ Err (UnexpectedToken t)
unless_read t e = rw e

module _ {E : Type 0} (bs : List ℕ) (u : IsUtf8 bs) where
  pub read : (z : ℤ) (r : Result ℤ E) → ParsesSigned w32 10 bs r → r ≡ Ok z
      → int_reading (chars bs) ≡ Ok (integer (to_z w32 (of_z w32 z)))
  read z r h e =
      let f : SFits w32 z = fits bs z r h e in
      let k : OkIff {E = E} (Ok z) (is_read bs ≡ true) (integer_of bs) =
      subst (λ o. OkIff o (is_read bs ≡ true) (integer_of bs)) e (reads bs r h) in
      let same : chars bs ≡ bs = same_chars bs u (inl (first_so (is_integer bs) _ k.0)) in
      ap int_reading same ∙ if_read bs k.0 ∙ ap (λ y. Ok (integer y)) (sym k.1 ∙ sym (to_z-of_z w32 z f))

  pub refused : (x : E) (r : Result ℤ E) → ParsesSigned w32 10 bs r → r ≡ Err x
      → int_reading (chars bs) ≡ Err (UnexpectedToken (chars bs))
  refused x r h e =
      let none : OkIff (Err x) (is_read bs ≡ true) (integer_of bs) =
      subst (λ o. OkIff o (is_read bs ≡ true) (integer_of bs)) e (reads bs r h) in
      unless_read (chars bs) (by_test (is_read (chars bs)) refl none)
    where
      by_test : (b : Bool) → is_read (chars bs) ≡ b → ¬ (is_read bs ≡ true) → is_read (chars bs) ≡ false
      by_test false t none = t
      by_test true t none = absurd (none (subst (λ y. is_read y ≡ true)
          (same_chars bs u (inr (first_so (is_integer (chars bs)) _ t))) t))
