-- The laws of a scalar type that has the default type's scalars, and its own beside them.
use Rattle.std.specs.Prelude.{◌≡◌, ◌⊎◌, ℤ, List, Option, Some, IsSome, refl}
use Rattle.std.proofs.Common.{inl, inr}
use Rattle.juniper_values.specs.Text.{Text}
use Rattle.juniper_values.specs.Scalar.{Content, integer, text, boolean, custom}
use Rattle.juniper_values.specs.Default.{default_content, default_shown, bool_in}
use Rattle.juniper_values.specs.BesideDefault.{int_beside, str_beside, string_beside, shown_beside}
use Rattle.juniper_values.specs.declared.default_scalar.DefaultScalarValue.{DefaultScalarValue}
use Rattle.juniper_values.specs.declared.default_scalar.DefaultScalarValue.TheVariants as scalar

module _ (own_text : List ℤ → Text) where
  -- a scalar is an integer, a boolean or a text
  pub beside-has_form : (own_int : List ℤ → Option ℤ) (c : Content)
      → IsSome (int_beside own_int c) ⊎ IsSome (bool_in c) ⊎ IsSome (string_beside own_text c)
  beside-has_form own_int (integer n) = inl refl
  beside-has_form own_int (text t) = inr (inr refl)
  beside-has_form own_int (boolean b) = inr (inl refl)
  beside-has_form own_int (custom ns) = inr (inr refl)

  -- a text that is borrowed is the text of the scalar, if it is so of the type's own
  pub lent-is_string : (own_str : List ℤ → Option Text)
      → ((ns : List ℤ) (t : Text) → own_str ns ≡ Some t → own_text ns ≡ t)
      → (c : Content) (t : Text) → str_beside own_str c ≡ Some t → string_beside own_text c ≡ Some t
  lent-is_string own_str own (integer n) t e = absurd (cc e)
  lent-is_string own_str own (text u) t e = e
  lent-is_string own_str own (boolean b) t e = absurd (cc e)
  lent-is_string own_str own (custom ns) t e = cc (own ns t e)

  -- a scalar of the default type displays what it does there
  pub default-shown : (s : DefaultScalarValue)
      → shown_beside own_text (default_content s) ≡ default_shown (default_content s)
  default-shown (scalar.Int n) = refl
  default-shown (scalar.String s) = refl
  default-shown (scalar.Boolean b) = refl
