-- How many values a value consists of, as a machine counts them.
use Rattle.std.proofs.Common.{◌≡◌, ℕ, zero, suc, ◌+◌, ◌<◌, [], ◌∷◌, length, get_or, sym, ap, arith, Global, String}
use Rattle.std.specs.Prelude.{◌^◌}
use Rattle.juniper_tokens.specs.declared.span.Spanning.{Spanning}
use Rattle.juniper_values.specs.declared.input_value.InputValue.{InputValue}
use Rattle.juniper_values.specs.View.{view, view_fields}
use Rattle.juniper_values.specs.device.Sizes.{value_count, count_at, saturated}
use Rattle.juniper_values.proofs.FieldsMet.{Pairs}

-- One more part is counted: the sum that saturates stands for the sum.
pub count_more : (sum part size next rest : ℕ) → size ≡ saturated part → next ≡ saturated (sum + size)
    → saturated (sum + (part + rest)) ≡ saturated (next + rest)
count_more sum part size next rest a b = omega (arith, a, b)

pub counted_all : (sum : ℕ) → sum < 2 ^ 64 → saturated (sum + 0) ≡ sum
counted_all sum l = omega (arith, l)

module _ {S : Type 0} where
  pub count_at-read : (xs : Pairs S) (i : ℕ) (x : Spanning (String Global) × Spanning (InputValue S)) → i < length xs
      → x ≡ get_or xs i x → count_at i (view_fields (λ s. s) xs) ≡ value_count (view (λ s. s) x.1.item)
  count_at-read [] i x lt e = absurd (omega (arith, lt))
  count_at-read (y ∷ xs) zero x lt e = ap (λ z. value_count (view (λ s. s) z.1.item)) (sym e)
  count_at-read (y ∷ xs) (suc i) x lt e = count_at-read xs i x (omega (arith, lt)) e
