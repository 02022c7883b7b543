-- Tests that are joined.
use Rattle.std.proofs.Common.{◌≡◌, ℕ, Bool, true, false, ◌&&◌, ◌||◌, ◌==◌, refl, ap, ◌∙◌, arith}
use Rattle.std.proofs.lemmas.Bool.Decides.{nat_tests}

pub and_true : (a b : Bool) → a ≡ true → (a && b) ≡ b
and_true a b e = ap (λ c. c && b) e

pub and_false : (a b : Bool) → a ≡ false → (a && b) ≡ false
and_false a b e = ap (λ c. c && b) e

never : (a : Bool) → (a && false) ≡ false
never true = refl
never false = refl

pub and_later : (a b : Bool) → b ≡ false → (a && b) ≡ false
and_later a b e = ap (λ c. a && c) e ∙ never a

pub or_false : (a b : Bool) → a ≡ false → (a || b) ≡ b
or_false a b e = ap (λ c. c || b) e

pub not_equal : (a b : ℕ) → (a ≡ b → ⊥) → (a == b) ≡ false
not_equal a b h = grind (arith, nat_tests, h)

pub are_equal : (a b : ℕ) → a ≡ b → (a == b) ≡ true
are_equal a b h = grind (arith, nat_tests, h)
