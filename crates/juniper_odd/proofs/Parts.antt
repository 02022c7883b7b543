-- A text that writes a decimal number, and its parts.
use Rattle.std.proofs.Common.{◌≡◌, refl, sym, ap, ap₂, ◌∙◌, ℕ, suc, ◌<◌, Bool, true, false, ◌&&◌, List, [], ◌∷◌, ◌++◌, ◌==◌, length, get_or, None, arith}
use Rattle.std.specs.Prelude.{◌≢◌, if◌then◌else◌}
use Rattle.std.specs.Str.{chars, IsUtf8, IsAscii}
use Rattle.std.specs.Cmp.{first_so, second_so}
use Rattle.std.proofs.lemmas.Bool.Decides.{nat_tests}
use Rattle.std.proofs.lemmas.Fmt.{IsAscii-from_digits}
use Rattle.std.proofs.lemmas.Str.{chars-IsAscii, encodes-IsAscii, encodes-chars}
use Rattle.std.proofs.lemmas.Str.Ascii.{IsAscii-cons, IsAscii-nil}
use Rattle.juniper_values.specs.Text.{Text}
use Rattle.juniper_values.specs.Integers.{is_digits}
use Rattle.juniper_odd.specs.Decimals.{whole, fraction, without_minus, is_decimal, thousandths_of, thousandths_in}
use Rattle.juniper_odd.proofs.Numbers.{own, some_digits}

-- a text that begins with no `-` stays as it is
pub no_minus : (t : Text) → ((rest : Text) → t ≢ 45 ∷ rest) → t ≡ without_minus t
no_minus [] h = refl
no_minus (c ∷ cs) h = by_sign (c == 45) refl
  where
    by_sign : (b : Bool) → (c == 45) ≡ b → c ∷ cs ≡ (if b then cs else c ∷ cs)
    by_sign true e = let is : c ≡ 45 = grind (arith, nat_tests) in absurd (h cs (ap (λ d. d ∷ cs) is))
    by_sign false e = refl

-- ---- the first point

abbrev pub HasNoPoint : Text → Type 0
HasNoPoint t = (i : ℕ) → i < length t → get_or t i 0 ≢ 46

no_test : (c : ℕ) → c ≢ 46 → (c == 46) ≡ false
no_test c h = by_test (c == 46) refl
  where
    by_test : (b : Bool) → (c == 46) ≡ b → (c == 46) ≡ false
    by_test true e = absurd (h (grind (arith, nat_tests)))
    by_test false e = e

after_first : (c : ℕ) (cs : Text) → HasNoPoint (c ∷ cs) → HasNoPoint cs
after_first c cs h i l = h (suc i) (omega (arith, l))

pub at_point : (a b : Text) → HasNoPoint a → (whole (a ++ 46 ∷ b) ≡ a) × (fraction (a ++ 46 ∷ b) ≡ b)
at_point [] b h = (refl, refl)
at_point (c ∷ cs) b h =
    let here = no_test c (h 0 (omega arith)) in
    let more = at_point cs b (after_first c cs h) in
    (rw here (ap (λ t. c ∷ t) more.0), rw here more.1)

pub without_point : (t : Text) → HasNoPoint t → fraction t ≡ []
without_point [] h = refl
without_point (c ∷ cs) h = rw (no_test c (h 0 (omega arith))) (without_point cs (after_first c cs h))

-- ---- a decimal number has no character past ASCII

digits_are_ascii : (ds : Text) → is_digits ds ≡ true → IsAscii ds
digits_are_ascii ds e = IsAscii-from_digits ds (own.to ds ((some_digits ds).0 e).0)

with_minus : (t : Text) → IsAscii (without_minus t) → IsAscii t
with_minus [] h = IsAscii-nil
with_minus (c ∷ cs) h = by_sign (c == 45) refl h
  where
    by_sign : (b : Bool) → (c == 45) ≡ b → IsAscii (if b then cs else c ∷ cs) → IsAscii (c ∷ cs)
    by_sign true e k = IsAscii-cons c cs (grind (arith, nat_tests)) k
    by_sign false e k = k

with_parts : (t : Text) → IsAscii (whole t) → IsAscii (fraction t) → 0 < length (fraction t) → IsAscii t
with_parts [] h k l = IsAscii-nil
with_parts (c ∷ cs) h k l = by_point (c == 46) refl (with_parts cs) h k l
  where
    by_point : (b : Bool) → (c == 46) ≡ b → (IsAscii (whole cs) → IsAscii (fraction cs) → 0 < length (fraction cs)
        → IsAscii cs)
        → IsAscii (if b then [] else c ∷ whole cs) → IsAscii (if b then cs else fraction cs)
        → 0 < length (if b then cs else fraction cs) → IsAscii (c ∷ cs)
    by_point true e more h k l = IsAscii-cons c cs (grind (arith, nat_tests)) k
    by_point false e more h k l = IsAscii-cons c cs (h 0) (more (λ i. h (suc i)) k l)

abbrev are_parts : Text → Bool
are_parts t = is_decimal (whole t) (fraction t)

decimals_are_ascii : (t : Text) → are_parts t ≡ true → IsAscii t
decimals_are_ascii t e =
    let parts = first_so (is_digits (without_minus (whole t)) && is_digits (fraction t)) _ e in
    let before = first_so (is_digits (without_minus (whole t))) _ parts in
    let after = second_so (is_digits (without_minus (whole t))) _ parts in
    with_parts t (with_minus (whole t) (digits_are_ascii _ before)) (digits_are_ascii _ after)
    ((some_digits (fraction t)).0 after).1

pub if_none : (before after : Text) → is_decimal before after ≡ false → None ≡ thousandths_of before after
if_none before after e = rw e refl

without_places : (t : Text) → fraction t ≡ [] → are_parts t ≡ false
without_places t e = rw e (by_test (is_digits (without_minus (whole t))))
  where
    by_test : (b : Bool) → (b && false && true) ≡ false
    by_test true = refl
    by_test false = refl

-- ---- from bytes to characters

-- the bytes of a text write what its characters do
same_number : (bs : List ℕ) → IsUtf8 bs → thousandths_in bs ≡ thousandths_in (chars bs)
same_number bs u = by_test (are_parts bs) (are_parts (chars bs)) refl refl
  where
    by_test : (a b : Bool) → are_parts bs ≡ a → are_parts (chars bs) ≡ b → thousandths_in bs ≡ thousandths_in (chars bs)
    by_test true b e f = ap thousandths_in (sym (chars-IsAscii bs (decimals_are_ascii bs e)))
    by_test false true e f = ap thousandths_in (sym (encodes-chars bs u)
        ∙ encodes-IsAscii (chars bs) (decimals_are_ascii (chars bs) f))
    by_test false false e f = sym (if_none (whole bs) (fraction bs) e)
        ∙ if_none (whole (chars bs)) (fraction (chars bs)) f

pub of_parts : (bs a b : List ℕ) → IsUtf8 bs → bs ≡ a ++ 46 ∷ b → HasNoPoint a
    → thousandths_of a b ≡ thousandths_in (chars bs)
of_parts bs a b u e h =
    let p = at_point a b h in
    sym (ap₂ thousandths_of p.0 p.1) ∙ ap thousandths_in (sym e) ∙ same_number bs u

pub of_no_point : (bs : List ℕ) → IsUtf8 bs → HasNoPoint bs → None ≡ thousandths_in (chars bs)
of_no_point bs u h = if_none (whole bs) (fraction bs) (without_places bs (without_point bs h)) ∙ same_number bs u
