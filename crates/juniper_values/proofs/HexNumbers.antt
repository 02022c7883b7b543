-- Four hexadecimal digits are those of a scalar by their first two digits, and by their number: the same.
use Rattle.std.proofs.Common.{inl, inr, ◌≡◌, ℕ, ◌+◌, ◌-◌, ◌*◌, ◌<◌, ◌≤◌, ◌⊎◌, Bool, true, false, IsTrue, arith, refl, codes}
use Rattle.std.proofs.lemmas.Bool.Decides.{nat_tests}
use Rattle.graphql_lexical.specs.Characters.{is_among, is_hex}
use Rattle.graphql_lexical.specs.Tokens.{AreScalarDigits}
use Rattle.juniper_values.specs.Escapes.{hex_value, hex_number}

-- a hexadecimal digit and its value
hex_is : (c : ℕ) → IsTrue (is_hex c)
    → ((48 ≤ c) × (c ≤ 57) × (hex_value c ≡ c - 48))
    ⊎ (((65 ≤ c) × (c ≤ 70) × (hex_value c ≡ c - 55)) ⊎ ((97 ≤ c) × (c ≤ 102) × (hex_value c ≡ c - 87)))
hex_is c h = grind (arith, nat_tests)

value_below : (c : ℕ) → IsTrue (is_hex c) → hex_value c < 16
value_below c h = let k = hex_is c h in grind arith

d_value : (c : ℕ) → IsTrue (is_among (codes "Dd") c) → hex_value c ≡ 13
d_value c h = grind (arith, nat_tests)

value_not_d : (c : ℕ) → IsTrue (is_hex c) → is_among (codes "Dd") c ≡ false → (hex_value c < 13) ⊎ (13 < hex_value c)
value_not_d c h g = grind (arith, nat_tests)

octal_value : (c : ℕ) → IsTrue (is_among (codes "01234567") c) → hex_value c < 8
octal_value c h = grind (arith, nat_tests)

octal_from : (c : ℕ) → IsTrue (is_hex c) → hex_value c < 8 → IsTrue (is_among (codes "01234567") c)
octal_from c x y = let k = hex_is c x in grind (arith, nat_tests)

pub scalar_number : (h i j k : ℕ) → AreScalarDigits h i j k
    → (hex_number h i j k < 55296) ⊎ (57343 < hex_number h i j k)
scalar_number h i j k s = by_d (is_among (codes "Dd") h) refl
  where
    number : (a b c d : ℕ) → b < 16 → c < 16 → d < 16 → (a < 13) ⊎ ((13 < a) ⊎ (b < 8))
        → (4096 * a + (256 * b + (16 * c + d)) < 55296) ⊎ (57343 < 4096 * a + (256 * b + (16 * c + d)))
    number a b c d x y z s = grind arith

    by : (hex_value h < 13) ⊎ ((13 < hex_value h) ⊎ (hex_value i < 8))
        → (hex_number h i j k < 55296) ⊎ (57343 < hex_number h i j k)
    by = number (hex_value h) (hex_value i) (hex_value j) (hex_value k) (value_below i s.0.1.0) (value_below j s.0.1.1.0)
        (value_below k s.0.1.1.1.0)

    by_d : (b : Bool) → is_among (codes "Dd") h ≡ b → (hex_number h i j k < 55296) ⊎ (57343 < hex_number h i j k)
    by_d true e = by (inr (inr (octal_value i (s.1 e))))
    by_d false e = by (elim (value_not_d h s.0.0 e) [ inl x ↦ inl x | inr x ↦ inr (inl x) ])

pub number_scalar : (h i j k : ℕ) → IsTrue (is_hex h) → IsTrue (is_hex i) → IsTrue (is_hex j) → IsTrue (is_hex k)
    → (hex_number h i j k < 55296) ⊎ (57343 < hex_number h i j k) → AreScalarDigits h i j k
number_scalar h i j k a b c d n = (
  (a, (b, (c, (d, tt)))),
  (λ e.
      octal_from i b (below (hex_value h) (hex_value i) (hex_value j) (hex_value k) (d_value h e) (value_below j c)
      (value_below k d) n (value_below i b))),
)
  where
    below : (a b c d : ℕ) → a ≡ 13 → c < 16 → d < 16
        → (4096 * a + (256 * b + (16 * c + d)) < 55296) ⊎ (57343 < 4096 * a + (256 * b + (16 * c + d))) → b < 16 → b < 8
    below a b c d e x y s l = grind arith
