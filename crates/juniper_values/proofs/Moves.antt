-- What a value becomes, scalar by scalar.
use Rattle.std.proofs.Common.{◌≡◌, refl, ap, sym, subst, ◌∙◌, Bool, true, List, ◌∷◌, Option, Some, None, option_map, unwrap_or, String, Global, Vec, true≢false}
use Rattle.std.specs.Option.{option_eq}
use Rattle.std.specs.HashMap.{HashMap}
use Rattle.graphql_lexical.specs.Place.{Span}
use Rattle.juniper_tokens.specs.declared.span.Spanning.{Spanning}
use Rattle.juniper_tokens.specs.Spans.{view_span}
use Rattle.juniper_values.specs.Text.{Text}
use Rattle.juniper_values.specs.Equality.{same_value}
use Rattle.juniper_values.specs.Resolve.{Values, resolve, resolve_items, resolve_fields, or_null, field_if, Becomes, ItemsBecome, FieldsBecome}
use Rattle.graphql_grammar.specs.Tree.{Value, Null, Scalar, Enum, Variable, ListOf, Object, Items, no_items, item, ObjectFields, no_fields, object_field}
use Rattle.juniper_values.specs.View.{view, view_items, view_fields, values_in}
use Rattle.juniper_values.specs.declared.input_value.InputValue.{InputValue}
use Rattle.juniper_values.specs.declared.input_value.InputValue.TheVariants as InputValue
use Rattle.juniper_values.proofs.Copies.{replaced, replaced_items, replaced_fields, view-replaced, same_contents}
use Rattle.juniper_values.proofs.Trees.{put_item, put_field, view-List, view-Object, view_or_null}
use Rattle.graphql_grammar.specs.Tokens.{Word}

-- ---- as the code makes it

abbrev Item : Type 0 → Type 0
Item S = Spanning (InputValue S)

abbrev Entry : Type 0 → Type 0
Entry S = Spanning (String Global) × Item S

module _ {S : Type 0} (eq : S → S → Bool) (m : Values S) where
  pub list_becomes : (v : InputValue S) (xs ys : Vec (Item S) Global) → v ≡ InputValue.List xs
      → ItemsBecome eq m (view_items (λ s. s) xs.items) (view_items (λ s. s) ys.items)
      → Becomes eq m (view (λ s. s) v) (Some (view (λ s. s) (InputValue.List ys)))
  list_becomes v xs ys is h =
      subst (λ (w : Value S). Becomes eq m w (Some (view (λ s. s) (InputValue.List ys))))
      (sym (ap (view (λ s. s)) is ∙ view-List (λ s. s) xs))
      (view_items (λ s. s) ys.items, ap Some (view-List (λ s. s) ys), h)

  pub object_becomes : (v : InputValue S) (xs ys : Vec (Entry S) Global)
      → v ≡ InputValue.Object xs
      → FieldsBecome eq m (view_fields (λ s. s) xs.items) (view_fields (λ s. s) ys.items)
      → Becomes eq m (view (λ s. s) v) (Some (view (λ s. s) (InputValue.Object ys)))
  object_becomes v xs ys is h =
      subst (λ (w : Value S). Becomes eq m w (Some (view (λ s. s) (InputValue.Object ys))))
      (sym (ap (view (λ s. s)) is ∙ view-Object (λ s. s) xs))
      (view_fields (λ s. s) ys.items, ap Some (view-Object (λ s. s) ys), h)

  -- one item more in front
  pub item_becomes : (xs left : List (Item S)) (x y : Item S) (o : Option (InputValue S)) (rest : Items S)
      → xs ≡ x ∷ left
      → y ≡ record { item = unwrap_or o InputValue.Null; span = x.span }
      → Becomes eq m (view (λ s. s) x.item) (option_map (view (λ s. s)) o)
      → ItemsBecome eq m (view_items (λ s. s) left) rest
      → ItemsBecome eq m (view_items (λ s. s) xs) (put_item (λ s. s) y rest)
  item_becomes xs left x y o rest is made b h =
      subst (λ (zs : List (Item S)). ItemsBecome eq m (view_items (λ s. s) zs) (put_item (λ s. s) y rest)) (sym is) (
        option_map (view (λ s. s)) o,
        rest,
        ap (λ z. put_item (λ s. s) z rest) made
            ∙ ap (λ v. item v (view_span x.span) rest) (view_or_null (λ s. s) o),
        b,
        h,
      )

  -- one field more in front
  pub field_becomes : (xs left : List (Entry S)) (x : Entry S) (y : Item S)
      (o : Option (InputValue S)) (v : InputValue S) (rest : ObjectFields S) → xs ≡ x ∷ left
      → y ≡ record { item = v; span = x.1.span }
      → o ≡ Some v → Becomes eq m (view (λ s. s) x.1.item) (option_map (view (λ s. s)) o)
      → FieldsBecome eq m (view_fields (λ s. s) left) rest
      → FieldsBecome eq m (view_fields (λ s. s) xs) (put_field (λ s. s) (x.0, y) rest)
  field_becomes xs left x y o v rest is made some b h =
      let became = subst (λ (p : Option (InputValue S)). Becomes eq m (view (λ s. s) x.1.item)
      (option_map (view (λ s. s)) p)) some b in
      subst (λ (zs : List (Entry S)). FieldsBecome eq m (view_fields (λ s. s) zs) (put_field (λ s. s) (x.0, y) rest))
      (sym is)
      (Some (view (λ s. s) v), rest, ap (λ z. put_field (λ s. s) (x.0, z) rest) made, became, h)

  -- a field whose value became nothing is left out
  pub field_goes : (xs left : List (Entry S)) (x : Entry S)
      (o : Option (InputValue S)) (rest : ObjectFields S) → xs ≡ x ∷ left
      → o ≡ None → Becomes eq m (view (λ s. s) x.1.item) (option_map (view (λ s. s)) o)
      → FieldsBecome eq m (view_fields (λ s. s) left) rest → FieldsBecome eq m (view_fields (λ s. s) xs) rest
  field_goes xs left x o rest is none b h =
      let became = subst (λ (p : Option (InputValue S)). Becomes eq m (view (λ s. s) x.1.item)
      (option_map (view (λ s. s)) p)) none b in
      subst (λ (zs : List (Entry S)). FieldsBecome eq m (view_fields (λ s. s) zs) rest) (sym is)
      (None, rest, refl, became, h)

-- ---- by the contents of scalars

module _ {S C : Type 0} (f : S → C) (eq : S → S → Bool) (same_by_eq : (a b : S) → eq a b ≡ true → f a ≡ f b)
    (m : Values S)
  where
    abbrev contents : Values C
    contents t = option_map (replaced f) (m t)

    copied : (v w : Option (Value S)) → option_eq (same_value eq) v w ≡ true
        → option_map (replaced f) w ≡ option_map (replaced f) v
    copied None None e = refl
    copied None (Some w) e = absurd (true≢false (sym e))
    copied (Some v) None e = absurd (true≢false (sym e))
    copied (Some v) (Some w) e = ap Some (sym (same_contents f eq same_by_eq v w e))

    null_replaced : (o : Option (Value S)) → replaced f (or_null o) ≡ or_null (option_map (replaced f) o)
    null_replaced None = refl
    null_replaced (Some v) = refl

    field_replaced : (k : Word) (o : Option (Value S)) (t : Span) (rest : ObjectFields S)
        → replaced_fields f (field_if k o t rest)
        ≡ field_if k (option_map (replaced f) o) t (replaced_fields f rest)
    field_replaced k None t rest = refl
    field_replaced k (Some v) t rest = refl

    mutual
      resolved : (v : Value S) (o : Option (Value S)) → Becomes eq m v o
          → option_map (replaced f) o ≡ resolve contents (replaced f v)
      resolved Null o b = ap (option_map (replaced f)) b
      resolved (Scalar s) o b = ap (option_map (replaced f)) b
      resolved (Enum t) o b = ap (option_map (replaced f)) b
      resolved (Variable t) o b = copied (m t) o b
      resolved (ListOf xs) o b = ap (option_map (replaced f)) b.1
          ∙ ap (λ ys. Some (ListOf ys)) (items_resolved xs b.0 b.2)
      resolved (Object fs) o b = ap (option_map (replaced f)) b.1
          ∙ ap (λ gs. Some (Object gs)) (fields_resolved fs b.0 b.2)

      items_resolved : (xs ys : Items S) → ItemsBecome eq m xs ys
          → replaced_items f ys ≡ resolve_items contents (replaced_items f xs)
      items_resolved no_items ys b = ap (replaced_items f) b
      items_resolved (item v s xs) ys b =
          ap (replaced_items f) b.2 ∙ (λ i. item ((null_replaced b.0 ∙ ap or_null (resolved v b.0 b.3)) i) s
          (items_resolved xs b.1 b.4 i))

      fields_resolved : (fs gs : ObjectFields S) → FieldsBecome eq m fs gs
          → replaced_fields f gs ≡ resolve_fields contents (replaced_fields f fs)
      fields_resolved no_fields gs b = ap (replaced_fields f) b
      fields_resolved (object_field k v t fs) gs b =
          ap (replaced_fields f) b.2 ∙ field_replaced k b.0 t b.1
          ∙ (λ i. field_if k (resolved v b.0 b.3 i) t (fields_resolved fs b.1 b.4 i))

-- what a value becomes scalar by scalar it becomes by their contents
pub resolved_by_content : {S C H : Type 0} (f : S → C) (eq : S → S → Bool)
    (same_by_eq : (a b : S) → eq a b ≡ true → f a ≡ f b) (m : HashMap (String Global) (InputValue S) H)
    (v : InputValue S)
    (o : Option (InputValue S))
    → Becomes eq (values_in (λ s. s) m) (view (λ s. s) v) (option_map (view (λ s. s)) o)
    → option_map (view f) o ≡ resolve (values_in f m) (view f v)
resolved_by_content f eq same_by_eq m v o b =
    seen o ∙ resolved f eq same_by_eq (values_in (λ s. s) m) (view (λ s. s) v) (option_map (view (λ s. s)) o) b
    ∙ (λ i. resolve (λ t. sym (seen_value t) i) (sym (view-replaced f v) i))
  where
    seen : (p : Option (InputValue _)) → option_map (view f) p ≡ option_map (replaced f) (option_map (view (λ s. s)) p)
    seen None = refl
    seen (Some w) = ap Some (view-replaced f w)

    seen_value : (t : Text) → values_in f m t ≡ option_map (replaced f) (values_in (λ s. s) m t)
    seen_value t = seen _
