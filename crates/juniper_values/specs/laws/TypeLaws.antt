-- Laws of the equality of types and of their modifiers.
use Rattle.std.specs.Prelude.{◌≡◌, true, refl}
use Rattle.std.proofs.Common.{sym, true≢false}
use Rattle.std.specs.Cmp.{IsEquivalence, IsPartialEquivalence, partial_equiv_from_equiv, on_equiv, and_equiv}
use Rattle.std.proofs.lemmas.Cmp.{nat_eq_equiv, nat_list_eq_equiv, lists_equiv}
use Rattle.std.specs.Cmp.Lexicographic.{options_equiv}
use Rattle.juniper_values.specs.Text.{Text}
use Rattle.juniper_values.specs.TypeLiteral.{same_modifier, same_type}
use Rattle.juniper_values.specs.declared.type_literal.TypeModifier.{TypeModifier}
use Rattle.juniper_values.specs.declared.type_literal.TypeModifier.TheVariants.{NonNull, List as ListOf}

itself : (m : TypeModifier) → same_modifier m m ≡ true
itself NonNull = refl
itself (ListOf n) = (options_equiv nat_eq_equiv).refl n

back : (m n : TypeModifier) → same_modifier m n ≡ same_modifier n m
back NonNull NonNull = refl
back NonNull (ListOf n) = refl
back (ListOf m) NonNull = refl
back (ListOf m) (ListOf n) = (options_equiv nat_eq_equiv).symm m n

along : (l m n : TypeModifier) → same_modifier l m ≡ true → same_modifier l n ≡ same_modifier m n
along NonNull NonNull n e = refl
along NonNull (ListOf m) n e = absurd (true≢false (sym e))
along (ListOf l) NonNull n e = absurd (true≢false (sym e))
along (ListOf l) (ListOf m) NonNull e = refl
along (ListOf l) (ListOf m) (ListOf n) e = (options_equiv nat_eq_equiv).congr l m n e

pub same_modifier-equiv : IsEquivalence same_modifier
same_modifier-equiv = record { refl = itself; symm = back; congr = along }

pub same_modifier-laws : IsPartialEquivalence same_modifier
same_modifier-laws = partial_equiv_from_equiv same_modifier-equiv

module _ {N : Type 0} (text_of : N → Text) where
  pub same_type-equiv : IsEquivalence (same_type text_of)
  same_type-equiv = and_equiv (on_equiv (λ t. text_of t.name) nat_list_eq_equiv) (on_equiv (λ t. t.modifiers) (lists_equiv same_modifier-equiv))

  pub same_type-laws : IsPartialEquivalence (same_type text_of)
  same_type-laws = partial_equiv_from_equiv same_type-equiv
