-- Values with and without variables.
use Rattle.std.proofs.Common.{◌≡◌, List, [], ◌∷◌, ◌++◌, map, Option, Some, None, refl, ◌∙◌}
use Rattle.std.proofs.lemmas.List.{map-append}
use Rattle.graphql_lexical.specs.Place.{Span}
use Rattle.juniper_values.specs.Text.{Text}
use Rattle.graphql_grammar.specs.Tree.{Value, Null, Scalar, Enum, Variable, ListOf, Object, Items, no_items, item, ObjectFields, no_fields, object_field}
use Rattle.juniper_values.specs.Variables.{variables, item_variables, field_variables, here, in_list, in_object, ItemRefers, first_item, later_item, FieldRefers, first_field, later_field, HasNoVariable}
use Rattle.juniper_values.specs.Variables.{variable_uses, item_uses, field_uses}
use Rattle.juniper_values.specs.Resolve.{Values, resolve, resolve_items, resolve_fields, or_null, field_if}
use Rattle.juniper_values.specs.laws.ValueLaws.{HaveNoVariables, LeavesNoVariable, RemovesVariables, IsEmptyWithoutVariables}
use Rattle.graphql_grammar.specs.Tokens.{Word}

left_empty : {A : Type 0} (xs ys : List A) → xs ++ ys ≡ [] → xs ≡ []
left_empty [] ys e = refl
left_empty (x ∷ xs) ys e = absurd (cc)

right_empty : {A : Type 0} (xs ys : List A) → xs ++ ys ≡ [] → ys ≡ []
right_empty [] ys e = e
right_empty (x ∷ xs) ys e = absurd (cc)

module _ {C : Type 0} where
  abbrev ItemsHaveNone : Items C → Type 0
  ItemsHaveNone xs = (t : Text) → ¬ (ItemRefers xs t)

  abbrev FieldsHaveNone : ObjectFields C → Type 0
  FieldsHaveNone fs = (t : Text) → ¬ (FieldRefers fs t)

  -- ---- the whole has what its parts have

  none_in_null : HasNoVariable {C = C} Null
  none_in_null t r = elim r [ ]

  none_in_scalar : (s : C) → HasNoVariable (Scalar s)
  none_in_scalar s t r = elim r [ ]

  none_in_enum : (n : Text) → HasNoVariable {C = C} (Enum n)
  none_in_enum n t r = elim r [ ]

  none_in_list : (xs : Items C) → ItemsHaveNone xs → HasNoVariable (ListOf xs)
  none_in_list xs p t (in_list _ _ r) = p t r

  none_in_object : (fs : ObjectFields C) → FieldsHaveNone fs → HasNoVariable (Object fs)
  none_in_object fs p t (in_object _ _ r) = p t r

  none_in_no_items : ItemsHaveNone no_items
  none_in_no_items t r = elim r [ ]

  none_in_items : (v : Value C) (s : Span) (xs : Items C) → HasNoVariable v → ItemsHaveNone xs
      → ItemsHaveNone (item v s xs)
  none_in_items v s xs p q t (first_item _ _ _ _ r) = p t r
  none_in_items v s xs p q t (later_item _ _ _ _ r) = q t r

  none_in_no_fields : FieldsHaveNone no_fields
  none_in_no_fields t r = elim r [ ]

  none_in_fields : (k : Word) (v : Value C) (r : Span) (fs : ObjectFields C) → HasNoVariable v → FieldsHaveNone fs
      → FieldsHaveNone (object_field k v r fs)
  none_in_fields k v r fs p q t (first_field _ _ _ _ _ h) = p t h
  none_in_fields k v r fs p q t (later_field _ _ _ _ _ h) = q t h

  -- ---- the names of the variables

  mutual
    no_names : (v : Value C) → HasNoVariable v → variables v ≡ []
    no_names Null p = refl
    no_names (Scalar s) p = refl
    no_names (Enum n) p = refl
    no_names (Variable n) p = absurd (p n (here n))
    no_names (ListOf xs) p = no_item_names xs (λ t r. p t (in_list xs t r))
    no_names (Object fs) p = no_field_names fs (λ t r. p t (in_object fs t r))

    no_item_names : (xs : Items C) → ItemsHaveNone xs → item_variables xs ≡ []
    no_item_names no_items p = refl
    no_item_names (item v s xs) p = λ i. no_names v (λ t r. p t (first_item v s xs t r)) i
        ++ no_item_names xs (λ t r. p t (later_item v s xs t r)) i

    no_field_names : (fs : ObjectFields C) → FieldsHaveNone fs → field_variables fs ≡ []
    no_field_names no_fields p = refl
    no_field_names (object_field k v r fs) p = λ i. no_names v (λ t h. p t (first_field k v r fs t h)) i
        ++ no_field_names fs (λ t h. p t (later_field k v r fs t h)) i

  mutual
    none : (v : Value C) → variables v ≡ [] → HasNoVariable v
    none Null e = none_in_null
    none (Scalar s) e = none_in_scalar s
    none (Enum n) e = none_in_enum n
    none (Variable n) e = absurd (cc)
    none (ListOf xs) e = none_in_list xs (items_none xs e)
    none (Object fs) e = none_in_object fs (fields_none fs e)

    items_none : (xs : Items C) → item_variables xs ≡ [] → ItemsHaveNone xs
    items_none no_items e = none_in_no_items
    items_none (item v s xs) e = none_in_items v s xs (none v (left_empty (variables v) _ e))
        (items_none xs (right_empty (variables v) _ e))

    fields_none : (fs : ObjectFields C) → field_variables fs ≡ [] → FieldsHaveNone fs
    fields_none no_fields e = none_in_no_fields
    fields_none (object_field k v r fs) e = none_in_fields k v r fs (none v (left_empty (variables v) _ e))
        (fields_none fs (right_empty (variables v) _ e))

  pub empty_without_variables : (v : Value C) → IsEmptyWithoutVariables v
  empty_without_variables v = (none v, no_names v)

  -- ---- the uses of variables

  mutual
    pub uses_name_variables : (span : Span) (v : Value C)
        → map (λ word. word.item) (variable_uses span v) ≡ variables v
    uses_name_variables span Null = refl
    uses_name_variables span (Scalar s) = refl
    uses_name_variables span (Enum n) = refl
    uses_name_variables span (Variable n) = refl
    uses_name_variables span (ListOf xs) = item_uses_name_variables xs
    uses_name_variables span (Object fs) = field_uses_name_variables fs

    item_uses_name_variables : (xs : Items C) → map (λ word. word.item) (item_uses xs) ≡ item_variables xs
    item_uses_name_variables no_items = refl
    item_uses_name_variables (item v s xs) =
        map-append (λ word. word.item) (variable_uses s v) (item_uses xs)
        ∙ (λ i. uses_name_variables s v i ++ item_uses_name_variables xs i)

    field_uses_name_variables : (fs : ObjectFields C) → map (λ word. word.item) (field_uses fs) ≡ field_variables fs
    field_uses_name_variables no_fields = refl
    field_uses_name_variables (object_field k v t fs) =
        map-append (λ word. word.item) (variable_uses t v) (field_uses fs)
        ∙ (λ i. uses_name_variables t v i ++ field_uses_name_variables fs i)

  -- ---- resolving

  module _ (m : Values C) where
    mutual
      kept : (v : Value C) → HasNoVariable v → resolve m v ≡ Some v
      kept Null p = refl
      kept (Scalar s) p = refl
      kept (Enum n) p = refl
      kept (Variable n) p = absurd (p n (here n))
      kept (ListOf xs) p = λ i. Some (ListOf (items_kept xs (λ t r. p t (in_list xs t r)) i))
      kept (Object fs) p = λ i. Some (Object (fields_kept fs (λ t r. p t (in_object fs t r)) i))

      items_kept : (xs : Items C) → ItemsHaveNone xs → resolve_items m xs ≡ xs
      items_kept no_items p = refl
      items_kept (item v s xs) p = λ i. item (or_null (kept v (λ t r. p t (first_item v s xs t r)) i)) s
          (items_kept xs (λ t r. p t (later_item v s xs t r)) i)

      fields_kept : (fs : ObjectFields C) → FieldsHaveNone fs → resolve_fields m fs ≡ fs
      fields_kept no_fields p = refl
      fields_kept (object_field k v r fs) p = λ i.
          field_if k (kept v (λ t h. p t (first_field k v r fs t h)) i) r
          (fields_kept fs (λ t h. p t (later_field k v r fs t h)) i)

    module _ (closed : HaveNoVariables m) where
      at_variable : (n : Text) (o : Option (Value C)) → m n ≡ o → LeavesNoVariable m (Variable n) o
      at_variable n None e = (n, refl, e)
      at_variable n (Some w) e = closed n w e

      at_item : (v : Value C) (o : Option (Value C)) → LeavesNoVariable m v o → HasNoVariable (or_null o)
      at_item v None p = none_in_null
      at_item v (Some w) p = p

      at_field : (k : Word) (v : Value C) (r : Span) (fs : ObjectFields C) (o : Option (Value C))
          → LeavesNoVariable m v o → FieldsHaveNone fs → FieldsHaveNone (field_if k o r fs)
      at_field k v r fs None p q = q
      at_field k v r fs (Some w) p q = none_in_fields k w r fs p q

      mutual
        removed : (v : Value C) → RemovesVariables m v
        removed Null = none_in_null
        removed (Scalar s) = none_in_scalar s
        removed (Enum n) = none_in_enum n
        removed (Variable n) = at_variable n (m n) refl
        removed (ListOf xs) = none_in_list (resolve_items m xs) (items_removed xs)
        removed (Object fs) = none_in_object (resolve_fields m fs) (fields_removed fs)

        items_removed : (xs : Items C) → ItemsHaveNone (resolve_items m xs)
        items_removed no_items = none_in_no_items
        items_removed (item v s xs) = none_in_items (or_null (resolve m v)) s (resolve_items m xs)
            (at_item v (resolve m v) (removed v)) (items_removed xs)

        fields_removed : (fs : ObjectFields C) → FieldsHaveNone (resolve_fields m fs)
        fields_removed no_fields = none_in_no_fields
        fields_removed (object_field k v r fs) = at_field k v r (resolve_fields m fs) (resolve m v) (removed v)
            (fields_removed fs)

  pub resolving_keeps : (m : Values C) (v : Value C) → HasNoVariable v → resolve m v ≡ Some v
  resolving_keeps = kept

  pub resolving_removes : (m : Values C) → HaveNoVariables m → (v : Value C) → RemovesVariables m v
  resolving_removes = removed
