-- Equality of contents, and the laws of the default scalar.
use Rattle.std.specs.Prelude.{◌≡◌, Bool, true, false, refl, ℤ, List, ◌⊎◌, IsSome}
use Rattle.std.proofs.Common.{ap, sym, inl, inr, true≢false}
use Rattle.std.specs.Bool.{Decides}
use Rattle.std.specs.Cmp.{IsEquivalence, IsPartialEquivalence, partial_equiv_from_equiv, on_equiv, decided, signed_Decides, booleans_Decides}
use Rattle.std.specs.Cmp.Rules.{signed_items}
use Rattle.std.proofs.lemmas.Slice.Eq.{bytes_eq-Decides}
use Rattle.juniper_values.specs.Text.{Text}
use Rattle.juniper_values.specs.Scalar.{Content, integer, text, boolean, custom, same_content}
use Rattle.juniper_values.specs.Default.{default_content, int_in, bool_in, text_in}
use Rattle.juniper_values.specs.declared.default_scalar.DefaultScalarValue.{DefaultScalarValue}
use Rattle.juniper_values.specs.declared.default_scalar.DefaultScalarValue.TheVariants as scalar

integer_or : ℤ → Content → ℤ
integer_or n (integer m) = m
integer_or n c = n

text_or : Text → Content → Text
text_or t (text u) = u
text_or t c = t

boolean_or : Bool → Content → Bool
boolean_or a (boolean b) = b
boolean_or a c = a

custom_or : List ℤ → Content → List ℤ
custom_or ns (custom ms) = ms
custom_or ns c = ns

same_form : Content → Content → Bool
same_form (integer a) (integer b) = true
same_form (text a) (text b) = true
same_form (boolean a) (boolean b) = true
same_form (custom a) (custom b) = true
same_form a b = false

-- equality of contents distinguishes contents
pub same_content-Decides : (a b : Content) → Decides (same_content a b) (a ≡ b)
unfolding integer_or text_or boolean_or custom_or same_form
same_content-Decides (integer a) (integer b) = ((λ e. ap integer ((signed_Decides a b).0 e)), (λ e. (signed_Decides a b).1 (ap (integer_or a) e)))
same_content-Decides (text a) (text b) = ((λ e. ap text ((bytes_eq-Decides a b).0 e)), (λ e. (bytes_eq-Decides a b).1 (ap (text_or a) e)))
same_content-Decides (boolean a) (boolean b) = ((λ e. ap boolean ((booleans_Decides a b).0 e)), (λ e. (booleans_Decides a b).1 (ap (boolean_or a) e)))
same_content-Decides (custom a) (custom b) = ((λ e. ap custom ((signed_items a b).0 e)), (λ e. (signed_items a b).1 (ap (custom_or a) e)))
same_content-Decides a b = ((λ e. absurd (true≢false (sym e))), (λ e. sym (ap (same_form a) e)))

-- equality by contents is an equivalence
pub by_content : {S : Type 0} (content : S → Content) → IsEquivalence (λ a b. same_content (content a) (content b))
by_content content = on_equiv content (decided same_content same_content-Decides)

pub partial_by_content : {S : Type 0} (content : S → Content) → IsPartialEquivalence (λ a b. same_content (content a) (content b))
partial_by_content content = partial_equiv_from_equiv (by_content content)

pub default-has_form : (a : DefaultScalarValue) → IsSome (int_in (default_content a)) ⊎ IsSome (bool_in (default_content a)) ⊎ IsSome (text_in (default_content a))
default-has_form (scalar.Int n) = inl refl
default-has_form (scalar.String s) = inr (inr refl)
default-has_form (scalar.Boolean b) = inr (inl refl)
