-- The tree of a value by its scalars' contents is its tree by its scalars, each with its content in its place.
use Rattle.std.proofs.Common.{◌≡◌, ◌==◌, ℕ, refl, ap, ap₂, sym, subst, ◌∙◌, true≢false, Bool, true, ◌&&◌, List, [], ◌∷◌, ◌++◌, map, String, Global}
use Rattle.std.specs.Prelude.{codes}
use Rattle.std.specs.Cmp.{first_so, second_so}
use Rattle.std.proofs.lemmas.Bool.{and_from}
use Rattle.std.proofs.lemmas.Bool.Decides.{Decides-eqb}
use Rattle.graphql_lexical.specs.Place.{Place, Span}
use Rattle.juniper_values.specs.Text.{Text, same_text}
use Rattle.juniper_values.specs.Display.{joined, value_text, item_texts, field_texts}
use Rattle.juniper_values.specs.Equality.{same_place, same_span, same_value, same_items, same_fields, same_word}
use Rattle.juniper_values.specs.laws.EqualityLaws.{same_span-equiv}
use Rattle.juniper_values.proofs.Alike.{same_key, text_equal}
use Rattle.juniper_tokens.specs.declared.span.Spanning.{Spanning}
use Rattle.juniper_tokens.specs.Spans.{view_span}
use Rattle.juniper_values.specs.View.{view, view_step, items_of, fields_of, text_of, view_located}
use Rattle.graphql_grammar.specs.Tree.{Value, Null, Scalar, Enum, Variable, ListOf, Object, Items, no_items, item, ObjectFields, no_fields, object_field}
use Rattle.juniper_values.specs.declared.input_value.InputValue.{InputValue, ind-InputValue, roll-InputValue, fold-roll-InputValue}
use Rattle.juniper_values.specs.declared.input_value.InputValue.TheOpen.{InputValue-F}
use Rattle.juniper_values.specs.declared.input_value.InputValue.TheFolds.{map-InputValue}

abbrev pub at_item : {A B : Type 0} → (A → B) → Spanning A → Spanning B
at_item f x = record { item = f x.item; span = x.span }

abbrev pub at_value : {A B : Type 0} → (A → B) → Spanning (String Global) × Spanning A
    → Spanning (String Global) × Spanning B
at_value f x = (x.0, at_item f x.1)

-- each scalar replaced
module _ {S C : Type 0} (f : S → C) where
  abbrev mutual
    pub replaced : Value S → Value C
    replaced Null = Null
    replaced (Scalar s) = Scalar (f s)
    replaced (Enum t) = Enum t
    replaced (Variable t) = Variable t
    replaced (ListOf xs) = ListOf (replaced_items xs)
    replaced (Object fs) = Object (replaced_fields fs)

    pub replaced_items : Items S → Items C
    replaced_items no_items = no_items
    replaced_items (item v s xs) = item (replaced v) s (replaced_items xs)

    pub replaced_fields : ObjectFields S → ObjectFields C
    replaced_fields no_fields = no_fields
    replaced_fields (object_field k v t fs) = object_field k (replaced v) t (replaced_fields fs)

  -- one level, where it holds of the values within
  module _ {V E : Type 0} (part : E → V) (a : V → Value C) (b : V → Value S)
      (within : (e : E) → a (part e) ≡ replaced (b (part e))) where
    items_replaced : (xs : List (Spanning E))
        → items_of (map (at_item a) (map (at_item part) xs))
        ≡ replaced_items (items_of (map (at_item b) (map (at_item part) xs)))
    items_replaced [] = refl
    items_replaced (x ∷ xs) = λ i. item (within x.item i) (view_span x.span) (items_replaced xs i)

    fields_replaced : (xs : List (Spanning (String Global) × Spanning E))
        → fields_of (map (at_value a) (map (at_value part) xs))
        ≡ replaced_fields (fields_of (map (at_value b) (map (at_value part) xs)))
    fields_replaced [] = refl
    fields_replaced (x ∷ xs) = λ i. object_field (view_located text_of x.0) (within x.1.item i)
        (view_span x.1.span) (fields_replaced xs i)

    level : (y : InputValue-F S E)
        → view_step f (map-InputValue S V (Value C) a (map-InputValue S E V part y))
        ≡ replaced (view_step (λ s. s) (map-InputValue S V (Value S) b (map-InputValue S E V part y)))
    level (InputValue-F.Null) = refl
    level (InputValue-F.Scalar s) = refl
    level (InputValue-F.Enum t) = refl
    level (InputValue-F.Variable t) = refl
    level (InputValue-F.List v) = ap ListOf (items_replaced v.items)
    level (InputValue-F.Object v) = ap Object (fields_replaced v.items)

  pub view-replaced : (v : InputValue S) → view f v ≡ replaced (view (λ s. s) v)
  view-replaced v = ind-InputValue S (λ v. view f v ≡ replaced (view (λ s. s) v)) (λ x y e.
      subst (λ (z : InputValue-F S (InputValue S)). view f (roll-InputValue S z)
      ≡ replaced (view (λ s. s) (roll-InputValue S z))) e
      (fold-roll-InputValue S (Value C) (view_step f) _ ∙ level (λ p. p.0) (view f) (view (λ s. s)) (λ p. p.1) y
      ∙ ap replaced (sym (fold-roll-InputValue S (Value S) (view_step (λ s. s)) _)))) v

-- ---- how a value is shown whose scalars are known by their contents

module _ {S C : Type 0} (f : S → C) (shown : C → Text) where
  mutual
    pub text_replaced : (v : Value S) → value_text shown (replaced f v) ≡ value_text (λ s. shown (f s)) v
    text_replaced Null = refl
    text_replaced (Scalar s) = refl
    text_replaced (Enum t) = refl
    text_replaced (Variable t) = refl
    text_replaced (ListOf xs) = ap (λ (ts : List Text). codes "[" ++ (joined ts ++ codes "]")) (items_text_replaced xs)
    text_replaced (Object fs) = ap (λ (ts : List Text). codes "{" ++ (joined ts ++ codes "}")) (fields_text_replaced fs)

    items_text_replaced : (xs : Items S) → item_texts shown (replaced_items f xs) ≡ item_texts (λ s. shown (f s)) xs
    items_text_replaced no_items = refl
    items_text_replaced (item v s xs) = ap₂ (λ (t : Text) (ts : List Text). t ∷ ts) (text_replaced v)
        (items_text_replaced xs)

    fields_text_replaced : (fs : ObjectFields S) → field_texts shown (replaced_fields f fs)
        ≡ field_texts (λ s. shown (f s)) fs
    fields_text_replaced no_fields = refl
    fields_text_replaced (object_field k v t fs) =
        ap₂ (λ (u : Text) (ts : List Text). (k.item ++ (codes ": " ++ u)) ∷ ts) (text_replaced v)
        (fields_text_replaced fs)

-- ---- values whose scalars have the same contents are equal

span_equal : (s t : Span) → s ≡ t → same_span s t ≡ true
span_equal s t e = sym (ap (same_span s) e) ∙ same_span-equiv.refl s

module _ {S C : Type 0} (f : S → C) (eq : S → S → Bool) (same : (a b : S) → f a ≡ f b → eq a b ≡ true) where
  mutual
    equal : (v w : Value S) → replaced f v ≡ replaced f w → same_value eq v w ≡ true
    equal Null Null e = refl
    equal Null w e = absurd (cc)
    equal (Scalar a) (Scalar b) e = same a b (cc)
    equal (Scalar a) w e = absurd (cc)
    equal (Enum a) (Enum b) e = text_equal a b (cc)
    equal (Enum a) w e = absurd (cc)
    equal (Variable a) (Variable b) e = text_equal a b (cc)
    equal (Variable a) w e = absurd (cc)
    equal (ListOf xs) (ListOf ys) e = items_equal xs ys (cc)
    equal (ListOf xs) w e = absurd (cc)
    equal (Object fs) (Object gs) e = fields_equal fs gs (cc)
    equal (Object fs) w e = absurd (cc)

    items_equal : (xs ys : Items S) → replaced_items f xs ≡ replaced_items f ys → same_items eq xs ys ≡ true
    items_equal no_items no_items e = refl
    items_equal no_items ys e = absurd (cc)
    items_equal (item v s xs) (item w t ys) e =
        and_from (same_value eq v w && same_span s t) _
        (and_from (same_value eq v w) _ (equal v w (cc)) (span_equal s t (cc))) (items_equal xs ys (cc))
    items_equal (item v s xs) ys e = absurd (cc)

    fields_equal : (fs gs : ObjectFields S) → replaced_fields f fs ≡ replaced_fields f gs → same_fields eq fs gs ≡ true
    fields_equal no_fields no_fields e = refl
    fields_equal no_fields gs e = absurd (cc)
    fields_equal (object_field k v s fs) (object_field l w t gs) e =
        and_from (same_word k l && (same_value eq v w && same_span s t)) _
        (and_from (same_word k l) _
        (and_from (same_text k.item l.item) _ (text_equal k.item l.item (cc)) (span_equal k.span l.span (cc)))
        (and_from (same_value eq v w) _ (equal v w (cc)) (span_equal s t (cc))))
        (fields_equal fs gs (cc))
    fields_equal (object_field k v s fs) gs e = absurd (cc)

  pub copies_equal : (a b : InputValue S) → view f a ≡ view f b
      → same_value eq (view (λ s. s) a) (view (λ s. s) b) ≡ true
  copies_equal a b e = equal (view (λ s. s) a) (view (λ s. s) b) (sym (view-replaced f a) ∙ e ∙ view-replaced f b)

-- ---- equal values have scalars of the same contents

same_number : (m n : ℕ) → (m == n) ≡ true → m ≡ n
same_number m n = (Decides-eqb m n).0

place_is : (p q : Place) → same_place p q ≡ true → p ≡ q
place_is p q e =
    let rest = second_so (p.index == q.index) _ e in
    let i = same_number p.index q.index (first_so _ _ e) in
    let l = same_number p.line q.line (first_so _ _ rest) in
    let c = same_number p.column q.column (second_so (p.line == q.line) _ rest) in
    λ k. record { index = i k; line = l k; column = c k }

span_is : (s t : Span) → same_span s t ≡ true → s ≡ t
span_is s t e =
    let from = place_is s.start t.start (first_so _ _ e) in
    let to = place_is s.end t.end (second_so (same_place s.start t.start) _ e) in
    λ k. record { start = from k; end = to k }

module _ {S C : Type 0} (f : S → C) (eq : S → S → Bool) (same_by_eq : (a b : S) → eq a b ≡ true → f a ≡ f b) where
  mutual
    pub same_contents : (v w : Value S) → same_value eq v w ≡ true → replaced f v ≡ replaced f w
    same_contents Null Null e = refl
    same_contents Null w e = absurd (true≢false (sym e))
    same_contents (Scalar a) (Scalar b) e = ap Scalar (same_by_eq a b e)
    same_contents (Scalar a) w e = absurd (true≢false (sym e))
    same_contents (Enum a) (Enum b) e = ap Enum (same_key a b e)
    same_contents (Enum a) w e = absurd (true≢false (sym e))
    same_contents (Variable a) (Variable b) e = ap Variable (same_key a b e)
    same_contents (Variable a) w e = absurd (true≢false (sym e))
    same_contents (ListOf xs) (ListOf ys) e = ap ListOf (same_item_contents xs ys e)
    same_contents (ListOf xs) w e = absurd (true≢false (sym e))
    same_contents (Object fs) (Object gs) e = ap Object (same_field_contents fs gs e)
    same_contents (Object fs) w e = absurd (true≢false (sym e))

    same_item_contents : (xs ys : Items S) → same_items eq xs ys ≡ true → replaced_items f xs ≡ replaced_items f ys
    same_item_contents no_items no_items e = refl
    same_item_contents no_items ys e = absurd (true≢false (sym e))
    same_item_contents (item v s xs) (item w t ys) e =
        let here = first_so (same_value eq v w && same_span s t) _ e in
        let value = same_contents v w (first_so _ _ here) in
        let span = span_is s t (second_so (same_value eq v w) _ here) in
        let rest = same_item_contents xs ys (second_so (same_value eq v w && same_span s t) _ e) in
        λ i. item (value i) (span i) (rest i)
    same_item_contents (item v s xs) ys e = absurd (true≢false (sym e))

    same_field_contents : (fs gs : ObjectFields S) → same_fields eq fs gs ≡ true
        → replaced_fields f fs ≡ replaced_fields f gs
    same_field_contents no_fields no_fields e = refl
    same_field_contents no_fields gs e = absurd (true≢false (sym e))
    same_field_contents (object_field k v s fs) (object_field l w t gs) e =
        let here = first_so (same_word k l && (same_value eq v w && same_span s t)) _ e in
        let names = first_so (same_word k l) _ here in
        let values = second_so (same_word k l) _ here in
        let key = same_key k.item l.item (first_so _ _ names) in
        let key_span = span_is k.span l.span (second_so (same_text k.item l.item) _ names) in
        let value = same_contents v w (first_so _ _ values) in
        let span = span_is s t (second_so (same_value eq v w) _ values) in
        let rest = same_field_contents fs gs
        (second_so (same_word k l && (same_value eq v w && same_span s t)) _ e) in
        λ i. object_field (record { item = key i; span = key_span i }) (value i) (span i) (rest i)
    same_field_contents (object_field k v s fs) gs e = absurd (true≢false (sym e))

  pub equal_contents : (a b : InputValue S) → same_value eq (view (λ s. s) a) (view (λ s. s) b) ≡ true
      → view f a ≡ view f b
  equal_contents a b e = view-replaced f a ∙ same_contents (view (λ s. s) a) (view (λ s. s) b) e
      ∙ sym (view-replaced f b)
