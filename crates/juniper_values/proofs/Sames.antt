-- The comparisons of values whatever their places, one turn each.
use Rattle.std.proofs.Common.{◌≡◌, refl, ap, ◌∙◌, ◌+◌, List, [], ◌∷◌, length, add-one, String, Global}
use Rattle.juniper_tokens.specs.declared.span.Spanning.{Spanning}
use Rattle.juniper_values.specs.Same.{field_count}
use Rattle.juniper_values.specs.View.{view_fields}
use Rattle.juniper_values.specs.declared.input_value.InputValue.{InputValue}

module _ {S : Type 0} where
  pub field_count-view : (xs : List (Spanning (String Global) × Spanning (InputValue S)))
      → field_count (view_fields (λ s. s) xs) ≡ length xs
  field_count-view [] = refl
  field_count-view (x ∷ xs) = ap (λ n. n + 1) (field_count-view xs) ∙ add-one (length xs)
