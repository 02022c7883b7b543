-- Values of the same data, and copies, are equal.
use Rattle.std.proofs.Common.{◌≡◌, ◌⊎◌, inl, inr, ap, ap₂, sym, subst, refl, ◌∙◌, Bool, true, false, cond, Option, Some, List, [], ◌∷◌, String, string_bytes, Global, Vec}
use Rattle.std.specs.Cmp.Lexicographic.{pointwise}
use Rattle.std.specs.HashMap.Eq.{hash_map_eq_from_get}
use Rattle.std.specs.Map.{lookup}
use Rattle.std.specs.Option.{option_eq}
use Rattle.std.specs.Str.{chars, bytes_eq}
use Rattle.std.specs.String.{string_eq}
use Rattle.std.proofs.lemmas.Bool.{and_from}
use Rattle.std.proofs.lemmas.Str.{encodes-chars, IsUtf8-string_bytes}
use lib.Utf8.{encodes}
use Rattle.juniper_answers.specs.Data.{Data, null, scalar, list, object, Items, no_items, item, Fields, no_fields, field}
use Rattle.juniper_answers.specs.laws.AnswerLaws.{ComparesParts}
use Rattle.juniper_answers.specs.Lift.{Lifts, ItemsLift, FieldsLift}
use Rattle.juniper_answers.specs.Same.{as_map}
use Rattle.juniper_answers.specs.View.{view, shape, items_view, fields_view, pairs}
use Rattle.juniper_answers.specs.declared.value.Object.{Object}
use Rattle.juniper_answers.specs.declared.value.Value.{Value, out-Value, roll-Value, roll-out-Value}
use Rattle.juniper_answers.specs.declared.value.Value as V
use Rattle.juniper_answers.specs.declared.value.Value.TheOpen.{Value-F}
use Rattle.juniper_answers.specs.declared.value.Value.TheVariants.{rolls-Null, rolls-Scalar, rolls-List, rolls-Object}
use Rattle.juniper_answers.proofs.Views.{view-Null, view-Scalar, view-List, view-Object}

-- ---- which variant a value is

module _ {S : Type 0} where
  abbrev IsVariant : Value S → Type 0
  IsVariant v = (v ≡ V.Null) ⊎ (((s : S) × (v ≡ V.Scalar s)) ⊎ (((vs : Vec (Value S) Global) × (v ≡ V.List vs))
      ⊎ ((o : Object S) × (v ≡ V.Object o))))

  of_layer : (x : Value-F S (Value S) (Object S)) → IsVariant (roll-Value S x)
  of_layer Value-F.Null = inl (rolls-Null)
  of_layer (Value-F.Scalar s) = inr (inl (s, rolls-Scalar s))
  of_layer (Value-F.List vs) = inr (inr (inl (vs, rolls-List vs)))
  of_layer (Value-F.Object o) = inr (inr (inr (o, rolls-Object o)))

  variant : (v : Value S) → IsVariant v
  variant v = subst IsVariant (roll-out-Value S v) (of_layer (out-Value S v))

  null_seen : (v : Value S) → shape v ≡ null → v ≡ V.Null
  null_seen v e = elim (variant v) [
    | inl is ↦ is
    | inr (inl (s, is)) ↦ absurd (cc (ap shape is, view-Scalar (λ x. x) s))
    | inr (inr (inl (vs, is))) ↦ absurd (cc (ap shape is, view-List (λ x. x) vs))
    | inr (inr (inr (o, is))) ↦ absurd (cc (ap shape is, view-Object (λ x. x) o))
  ]

  scalar_seen : (v : Value S) (s : S) → shape v ≡ scalar s → v ≡ V.Scalar s
  scalar_seen v s e = elim (variant v) [
    | inl is ↦ absurd (cc (ap shape is, view-Null (λ (x : S). x)))
    | inr (inl (t, is)) ↦ let h = sym (ap shape is ∙ view-Scalar (λ x. x) t) ∙ e in is ∙ ap V.Scalar (cc h)
    | inr (inr (inl (vs, is))) ↦ absurd (cc (ap shape is, view-List (λ x. x) vs))
    | inr (inr (inr (o, is))) ↦ absurd (cc (ap shape is, view-Object (λ x. x) o))
  ]

  list_seen : (v : Value S) (ds : Items S) → shape v ≡ list ds
      → (vs : Vec (Value S) Global) × (v ≡ V.List vs) × (items_view (λ x. x) vs.items ≡ ds)
  list_seen v ds e = elim (variant v) [
    | inl is ↦ absurd (cc (ap shape is, view-Null (λ (x : S). x)))
    | inr (inl (t, is)) ↦ absurd (cc (ap shape is, view-Scalar (λ x. x) t))
    | inr (inr (inl (vs, is))) ↦ let h = sym (ap shape is ∙ view-List (λ x. x) vs) ∙ e in (vs, is, cc h)
    | inr (inr (inr (o, is))) ↦ absurd (cc (ap shape is, view-Object (λ x. x) o))
  ]

  object_seen : (v : Value S) (fs : Fields S) → shape v ≡ object fs
      → (o : Object S) × (v ≡ V.Object o) × (fields_view (λ x. x) (pairs o) ≡ fs)
  object_seen v fs e = elim (variant v) [
    | inl is ↦ absurd (cc (ap shape is, view-Null (λ (x : S). x)))
    | inr (inl (t, is)) ↦ absurd (cc (ap shape is, view-Scalar (λ x. x) t))
    | inr (inr (inl (vs, is))) ↦ absurd (cc (ap shape is, view-List (λ x. x) vs))
    | inr (inr (inr (o, is))) ↦ let h = sym (ap shape is ∙ view-Object (λ x. x) o) ∙ e in (o, is, cc h)
  ]

-- ---- data with scalars by their contents is data with each scalar's content in its place

module _ {S C : Type 0} (f : S → C) where
  abbrev mutual
    replaced : Data S → Data C
    replaced null = null
    replaced (scalar s) = scalar (f s)
    replaced (list ds) = list (replaced_items ds)
    replaced (object fs) = object (replaced_fields fs)

    replaced_items : Items S → Items C
    replaced_items no_items = no_items
    replaced_items (item d ds) = item (replaced d) (replaced_items ds)

    replaced_fields : Fields S → Fields C
    replaced_fields no_fields = no_fields
    replaced_fields (field k d fs) = field k (replaced d) (replaced_fields fs)

  mutual
    view_replaced : (d : Data S) (v : Value S) → shape v ≡ d → view f v ≡ replaced d
    view_replaced null v e = ap (view f) (null_seen v e) ∙ view-Null f
    view_replaced (scalar s) v e = ap (view f) (scalar_seen v s e) ∙ view-Scalar f s
    view_replaced (list ds) v e =
        let w = list_seen v ds e in
        ap (view f) w.1 ∙ view-List f w.0 ∙ ap list (items_view_replaced ds w.0.items w.2)
    view_replaced (object fs) v e =
        let w = object_seen v fs e in
        ap (view f) w.1 ∙ view-Object f w.0 ∙ ap object (fields_view_replaced fs (pairs w.0) w.2)

    items_view_replaced : (ds : Items S) (vs : List (Value S)) → items_view (λ x. x) vs ≡ ds
        → items_view f vs ≡ replaced_items ds
    items_view_replaced no_items [] e = refl
    items_view_replaced no_items (v ∷ vs) e = absurd (cc)
    items_view_replaced (item d ds) [] e = absurd (cc)
    items_view_replaced (item d ds) (v ∷ vs) e = ap₂ item (view_replaced d v (cc)) (items_view_replaced ds vs (cc))

    fields_view_replaced : (fs : Fields S) (ps : List (String Global × Value S)) → fields_view (λ x. x) ps ≡ fs
        → fields_view f ps ≡ replaced_fields fs
    fields_view_replaced no_fields [] e = refl
    fields_view_replaced no_fields (p ∷ ps) e = absurd (cc)
    fields_view_replaced (field k d fs) [] e = absurd (cc)
    fields_view_replaced (field k d fs) (p ∷ ps) e =
        let key : chars (string_bytes p.0) ≡ k = cc in
        let value = view_replaced d p.1 (cc) in
        let rest = fields_view_replaced fs ps (cc) in
        λ i. field (key i) (value i) (rest i)

  mutual
    lifts : (d e : Data S) → replaced d ≡ replaced e → Lifts (λ s t. f t ≡ f s) d e
    lifts null null h = tt
    lifts null e h = absurd (cc)
    lifts (scalar s) (scalar t) h = sym (cc h)
    lifts (scalar s) e h = absurd (cc)
    lifts (list ds) (list es) h = items_lift ds es (cc)
    lifts (list ds) e h = absurd (cc)
    lifts (object fs) (object gs) h = fields_lift fs gs (cc)
    lifts (object fs) e h = absurd (cc)

    items_lift : (ds es : Items S) → replaced_items ds ≡ replaced_items es → ItemsLift (λ s t. f t ≡ f s) ds es
    items_lift no_items no_items h = tt
    items_lift no_items es h = absurd (cc)
    items_lift (item d ds) (item e es) h = (lifts d e (cc), items_lift ds es (cc))
    items_lift (item d ds) es h = absurd (cc)

    fields_lift : (fs gs : Fields S) → replaced_fields fs ≡ replaced_fields gs → FieldsLift (λ s t. f t ≡ f s) fs gs
    fields_lift no_fields no_fields h = tt
    fields_lift no_fields gs h = absurd (cc)
    fields_lift (field k d fs) (field l e gs) h = (cc, lifts d e (cc), fields_lift fs gs (cc))
    fields_lift (field k d fs) gs h = absurd (cc)

-- ---- values whose data are related scalar by scalar, by what makes scalars equal

-- keys of the same characters are found alike
same_key : (key k l : String Global) → chars (string_bytes k) ≡ chars (string_bytes l)
    → string_eq key k ≡ string_eq key l
same_key key k l e =
    ap (bytes_eq (string_bytes key))
    (sym (encodes-chars (string_bytes k) (IsUtf8-string_bytes k)) ∙ ap encodes e
    ∙ encodes-chars (string_bytes l) (IsUtf8-string_bytes l))

-- what is found at a key, where the first values are equal and what is found after them is
found : {A : Type 0} (E : A → A → Bool) (v w : A) (m n : Option A) (b : Bool) → E v w ≡ true → option_eq E m n ≡ true
    → option_eq E (cond b (Some v) m) (cond b (Some w) n) ≡ true
found E v w m n true e h = e
found E v w m n false e h = h

module _ {S : Type 0} (R : S → S → Type 0) (eq : S → S → Bool) (same_scalars : (s t : S) → R s t → eq s t ≡ true)
    (E : Value S → Value S → Bool) (parts : ComparesParts eq E) where
  mutual
    equal : (d e : Data S) (v w : Value S) → shape v ≡ d → shape w ≡ e → Lifts R d e → E v w ≡ true
    equal null null v w p q l = ap₂ E (null_seen v p) (null_seen w q) ∙ parts.nulls
    equal null e v w p q l = absurd l
    equal (scalar s) (scalar t) v w p q l =
        ap₂ E (scalar_seen v s p) (scalar_seen w t q) ∙ parts.scalars s t ∙ same_scalars s t l
    equal (scalar s) e v w p q l = absurd l
    equal (list ds) (list es) v w p q l =
        let x = list_seen v ds p in
        let y = list_seen w es q in
        ap₂ E x.1 y.1 ∙ parts.lists x.0 y.0 ∙ items_equal ds es x.0.items y.0.items x.2 y.2 l
    equal (list ds) e v w p q l = absurd l
    equal (object fs) (object gs) v w p q l =
        let x = object_seen v fs p in
        let y = object_seen w gs q in
        ap₂ E x.1 y.1 ∙ parts.objects x.0 y.0
        ∙ hash_map_eq_from_get string_eq E (as_map (pairs x.0)) (as_map (pairs y.0))
        (fields_equal fs gs (pairs x.0) (pairs y.0) x.2 y.2 l)
    equal (object fs) e v w p q l = absurd l

    items_equal : (ds es : Items S) (vs ws : List (Value S)) → items_view (λ x. x) vs ≡ ds
        → items_view (λ x. x) ws ≡ es → ItemsLift R ds es → pointwise E vs ws ≡ true
    items_equal no_items no_items [] [] p q l = refl
    items_equal no_items no_items (v ∷ vs) ws p q l = absurd (cc)
    items_equal no_items no_items [] (w ∷ ws) p q l = absurd (cc)
    items_equal no_items (item e es) vs ws p q l = absurd l
    items_equal (item d ds) no_items vs ws p q l = absurd l
    items_equal (item d ds) (item e es) [] ws p q l = absurd (cc)
    items_equal (item d ds) (item e es) (v ∷ vs) [] p q l = absurd (cc)
    items_equal (item d ds) (item e es) (v ∷ vs) (w ∷ ws) p q l =
        and_from (E v w) (pointwise E vs ws) (equal d e v w (cc) (cc) l.0) (items_equal ds es vs ws (cc) (cc) l.1)

    fields_equal : (fs gs : Fields S) (ps qs : List (String Global × Value S)) → fields_view (λ x. x) ps ≡ fs
        → fields_view (λ x. x) qs ≡ gs → FieldsLift R fs gs
        → (key : String Global) → option_eq E (lookup (string_eq key) ps) (lookup (string_eq key) qs) ≡ true
    fields_equal no_fields no_fields [] [] p q l key = refl
    fields_equal no_fields no_fields (x ∷ ps) qs p q l key = absurd (cc)
    fields_equal no_fields no_fields [] (y ∷ qs) p q l key = absurd (cc)
    fields_equal no_fields (field k e gs) ps qs p q l key = absurd l
    fields_equal (field k d fs) no_fields ps qs p q l key = absurd l
    fields_equal (field k d fs) (field m e gs) [] qs p q l key = absurd (cc)
    fields_equal (field k d fs) (field m e gs) (x ∷ ps) [] p q l key = absurd (cc)
    fields_equal (field k d fs) (field m e gs) (x ∷ ps) (y ∷ qs) p q l key =
        let keys : chars (string_bytes x.0) ≡ chars (string_bytes y.0) = let a : chars (string_bytes x.0) ≡ k = cc in
        let b : chars (string_bytes y.0) ≡ m = cc in a ∙ sym l.0 ∙ sym b in
        ap (λ b. option_eq E (cond (string_eq key x.0) (Some x.1) (lookup (string_eq key) ps))
        (cond b (Some y.1) (lookup (string_eq key) qs))) (sym (same_key key x.0 y.0 keys))
        ∙ found E x.1 y.1 _ _ (string_eq key x.0) (equal d e x.1 y.1 (cc) (cc) l.1)
        (fields_equal fs gs ps qs (cc) (cc) l.2 key)

  -- copies
  pub copies_equal : (v w : Value S) → Lifts R (shape v) (shape w) → E v w ≡ true
  copies_equal v w = equal (shape v) (shape w) v w refl refl

-- values of the same data are related by the contents of their scalars
pub same_data-lifts : {S C : Type 0} (f : S → C) (v w : Value S) → view f v ≡ view f w
    → Lifts (λ s t. f t ≡ f s) (shape v) (shape w)
same_data-lifts f v w e = lifts f (shape v) (shape w) (sym (view_replaced f (shape v) v refl) ∙ e
    ∙ view_replaced f (shape w) w refl)
