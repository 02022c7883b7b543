-- Equality of input values is an equivalence, since that of scalars is one.
use Rattle.std.specs.Prelude.{◌≡◌, Bool, true, ◌&&◌, refl}
use Rattle.std.proofs.Common.{sym, ◌∙◌, true≢false}
use Rattle.std.specs.Cmp.{IsEquivalence, IsPartialEquivalence, partial_equiv_from_equiv, on_equiv, and_equiv, equiv, first_so, second_so}
use Rattle.std.proofs.lemmas.Bool.{and_from}
use Rattle.std.proofs.lemmas.Cmp.{nat_eq_equiv, nat_list_eq_equiv}
use Rattle.graphql_lexical.specs.Place.{Span}
use Rattle.juniper_values.specs.Text.{Text, same_text}
use Rattle.graphql_grammar.specs.Tree.{Value, Null, Scalar, Enum, Variable, ListOf, Object, Items, no_items, item, ObjectFields, no_fields, object_field}
use Rattle.juniper_values.specs.Equality.{same_place, same_span, same_value, same_items, same_fields, same_word}
use Rattle.juniper_values.specs.View.{view}
use Rattle.juniper_values.specs.declared.input_value.InputValue.{InputValue}

pub same_place-equiv : IsEquivalence same_place
same_place-equiv = and_equiv (on_equiv (λ p. p.index) nat_eq_equiv) (and_equiv (on_equiv (λ p. p.line) nat_eq_equiv) (on_equiv (λ p. p.column) nat_eq_equiv))

pub same_span-equiv : IsEquivalence same_span
same_span-equiv = and_equiv (on_equiv (λ s. s.start) same_place-equiv) (on_equiv (λ s. s.end) same_place-equiv)

text_along : (a b c : Text) → same_text a b ≡ true → same_text b c ≡ true → same_text a c ≡ true
text_along a b c e f = nat_list_eq_equiv.congr a b c e ∙ f

span_along : (a b c : Span) → same_span a b ≡ true → same_span b c ≡ true → same_span a c ≡ true
span_along a b c e f = same_span-equiv.congr a b c e ∙ f

module _ {C : Type 0} {eq : C → C → Bool} (laws : IsPartialEquivalence eq) where
  mutual
    back : (v w : Value C) → same_value eq v w ≡ same_value eq w v
    back Null Null = refl
    back (Scalar a) (Scalar b) = laws.symm a b
    back (Enum a) (Enum b) = nat_list_eq_equiv.symm a b
    back (Variable a) (Variable b) = nat_list_eq_equiv.symm a b
    back (ListOf xs) (ListOf ys) = items_back xs ys
    back (Object fs) (Object gs) = fields_back fs gs
    back v w = refl

    items_back : (xs ys : Items C) → same_items eq xs ys ≡ same_items eq ys xs
    items_back no_items no_items = refl
    items_back (item v s xs) (item w t ys) = λ i. (back v w i && same_span-equiv.symm s t i) && items_back xs ys i
    items_back xs ys = refl

    fields_back : (fs gs : ObjectFields C) → same_fields eq fs gs ≡ same_fields eq gs fs
    fields_back no_fields no_fields = refl
    fields_back (object_field k v s fs) (object_field l w t gs) = λ i.
        ((nat_list_eq_equiv.symm k.item l.item i && same_span-equiv.symm k.span l.span i) && (back v w i && same_span-equiv.symm s t i)) && fields_back fs gs i
    fields_back fs gs = refl

  mutual
    along : (u v w : Value C) → same_value eq u v ≡ true → same_value eq v w ≡ true → same_value eq u w ≡ true
    along Null Null Null e f = refl
    along Null Null w e f = absurd (true≢false (sym f))
    along Null v w e f = absurd (true≢false (sym e))
    along (Scalar a) (Scalar b) (Scalar c) e f = laws.trans a b c e f
    along (Scalar a) (Scalar b) w e f = absurd (true≢false (sym f))
    along (Scalar a) v w e f = absurd (true≢false (sym e))
    along (Enum a) (Enum b) (Enum c) e f = text_along a b c e f
    along (Enum a) (Enum b) w e f = absurd (true≢false (sym f))
    along (Enum a) v w e f = absurd (true≢false (sym e))
    along (Variable a) (Variable b) (Variable c) e f = text_along a b c e f
    along (Variable a) (Variable b) w e f = absurd (true≢false (sym f))
    along (Variable a) v w e f = absurd (true≢false (sym e))
    along (ListOf xs) (ListOf ys) (ListOf zs) e f = items_along xs ys zs e f
    along (ListOf xs) (ListOf ys) w e f = absurd (true≢false (sym f))
    along (ListOf xs) v w e f = absurd (true≢false (sym e))
    along (Object fs) (Object gs) (Object hs) e f = fields_along fs gs hs e f
    along (Object fs) (Object gs) w e f = absurd (true≢false (sym f))
    along (Object fs) v w e f = absurd (true≢false (sym e))

    items_along : (xs ys zs : Items C) → same_items eq xs ys ≡ true → same_items eq ys zs ≡ true → same_items eq xs zs ≡ true
    items_along no_items no_items no_items e f = refl
    items_along no_items no_items zs e f = absurd (true≢false (sym f))
    items_along no_items ys zs e f = absurd (true≢false (sym e))
    items_along (item u r xs) (item v s ys) (item w t zs) e f =
        let p = first_so (same_value eq u v && same_span r s) _ e in
        let q = first_so (same_value eq v w && same_span s t) _ f in
        and_from (same_value eq u w && same_span r t) (same_items eq xs zs)
        (and_from (same_value eq u w) (same_span r t) (along u v w (first_so (same_value eq u v) _ p) (first_so (same_value eq v w) _ q))
        (span_along r s t (second_so (same_value eq u v) _ p) (second_so (same_value eq v w) _ q)))
        (items_along xs ys zs (second_so (same_value eq u v && same_span r s) _ e) (second_so (same_value eq v w && same_span s t) _ f))
    items_along (item u r xs) (item v s ys) zs e f = absurd (true≢false (sym f))
    items_along (item u r xs) ys zs e f = absurd (true≢false (sym e))

    fields_along : (fs gs hs : ObjectFields C) → same_fields eq fs gs ≡ true → same_fields eq gs hs ≡ true → same_fields eq fs hs ≡ true
    fields_along no_fields no_fields no_fields e f = refl
    fields_along no_fields no_fields hs e f = absurd (true≢false (sym f))
    fields_along no_fields gs hs e f = absurd (true≢false (sym e))
    fields_along (object_field k u r fs) (object_field l v s gs) (object_field m w t hs) e f =
        let p = first_so (same_word k l && (same_value eq u v && same_span r s)) _ e in
        let q = first_so (same_word l m && (same_value eq v w && same_span s t)) _ f in
        let i = first_so (same_word k l) _ p in
        let j = first_so (same_word l m) _ q in
        let x = second_so (same_word k l) _ p in
        let y = second_so (same_word l m) _ q in
        and_from (same_word k m && (same_value eq u w && same_span r t)) (same_fields eq fs hs)
        (and_from (same_word k m) (same_value eq u w && same_span r t)
        (and_from (same_text k.item m.item) (same_span k.span m.span) (text_along k.item l.item m.item (first_so (same_text k.item l.item) _ i) (first_so (same_text l.item m.item) _ j))
        (span_along k.span l.span m.span (second_so (same_text k.item l.item) _ i) (second_so (same_text l.item m.item) _ j)))
        (and_from (same_value eq u w) (same_span r t) (along u v w (first_so (same_value eq u v) _ x) (first_so (same_value eq v w) _ y))
        (span_along r s t (second_so (same_value eq u v) _ x) (second_so (same_value eq v w) _ y))))
        (fields_along fs gs hs (second_so (same_word k l && (same_value eq u v && same_span r s)) _ e)
        (second_so (same_word l m && (same_value eq v w && same_span s t)) _ f))
    fields_along (object_field k u r fs) (object_field l v s gs) hs e f = absurd (true≢false (sym f))
    fields_along (object_field k u r fs) gs hs e f = absurd (true≢false (sym e))

module _ {C : Type 0} (eq : C → C → Bool) (itself : (c : C) → eq c c ≡ true) where
  mutual
    same : (v : Value C) → same_value eq v v ≡ true
    same Null = refl
    same (Scalar a) = itself a
    same (Enum t) = nat_list_eq_equiv.refl t
    same (Variable t) = nat_list_eq_equiv.refl t
    same (ListOf xs) = items_same xs
    same (Object fs) = fields_same fs

    items_same : (xs : Items C) → same_items eq xs xs ≡ true
    items_same no_items = refl
    items_same (item v s xs) = λ i. (same v i && same_span-equiv.refl s i) && items_same xs i

    fields_same : (fs : ObjectFields C) → same_fields eq fs fs ≡ true
    fields_same no_fields = refl
    fields_same (object_field k v s fs) = λ i.
        ((nat_list_eq_equiv.refl k.item i && same_span-equiv.refl k.span i) && (same v i && same_span-equiv.refl s i)) && fields_same fs i

-- on values
pub values_alike : {C : Type 0} {eq : C → C → Bool} → IsPartialEquivalence eq → IsPartialEquivalence (same_value eq)
values_alike laws = record { symm = back laws; trans = along laws }

pub values_equivalent : {C : Type 0} {eq : C → C → Bool} → IsEquivalence eq → IsEquivalence (same_value eq)
values_equivalent {eq} laws = equiv (values_alike (partial_equiv_from_equiv laws)) (same eq laws.refl)

-- on the code's values, seen as such
pub same_value-laws : {S : Type 0} {eq : S → S → Bool} → IsPartialEquivalence eq
    → IsPartialEquivalence (λ (a b : InputValue S). same_value eq (view (λ s. s) a) (view (λ s. s) b))
same_value-laws laws = record {
  symm = λ a b. (values_alike laws).symm (view (λ s. s) a) (view (λ s. s) b);
  trans = λ a b c. (values_alike laws).trans (view (λ s. s) a) (view (λ s. s) b) (view (λ s. s) c);
}

pub same_value-equiv : {S : Type 0} {eq : S → S → Bool} → IsEquivalence eq
    → IsEquivalence (λ (a b : InputValue S). same_value eq (view (λ s. s) a) (view (λ s. s) b))
same_value-equiv laws = on_equiv (view (λ s. s)) (values_equivalent laws)
