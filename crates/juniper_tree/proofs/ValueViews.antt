-- The view of a value, by its variant.
use Rattle.std.proofs.Common.{◌≡◌, ◌∙◌, ap, refl, List, [], ◌∷◌, map, String, Global, Vec, rules}
use Rattle.graphql_lexical.specs.Place.{Span}
use Rattle.graphql_grammar.specs.Tokens.{Located}
use Rattle.graphql_grammar.specs.Tree.{Null, Scalar, Enum, Variable, ListOf, Object, item, object_field, items_of, fields_of}
use Rattle.juniper_tokens.specs.Spans.{view_span}
use Rattle.juniper_tokens.specs.declared.span.Spanning.{Spanning}
use Rattle.juniper_values.specs.View.{view, view_items, view_fields}
use Rattle.juniper_values.specs.declared.input_value.InputValue.{InputValue, the_lemmas}
use Rattle.juniper_values.specs.declared.input_value.InputValue.TheVariants as InputValue
use Rattle.juniper_values.proofs.Public.{view-List, view-Object}
use Rattle.juniper_tree.specs.View.{view_located, text_of, view_value, view_object_field}

-- equal values in one place
pub in_place : {A : Type 0} {x y : A} → x ≡ y → (span : Span)
    → ◌≡◌ {A = Located A} (record { item = x; span = span }) (record { item = y; span = span })
in_place e span = ap (λ z. record { item = z; span = span }) e

module _ {S C : Type 0} (content : S → C) where
  items : (xs : List (Spanning (InputValue S))) → view_items content xs ≡ items_of (map (view_value content) xs)
  items [] = refl
  items (x ∷ xs) = ap (item (view content x.item) (view_span x.span)) (items xs)

  fields : (xs : List (Spanning (String Global) × Spanning (InputValue S)))
      → view_fields content xs ≡ fields_of (map (view_object_field content) xs)
  fields [] = refl
  fields (x ∷ xs) =
      ap (object_field (view_located text_of x.0) (view content x.1.item) (view_span x.1.span)) (fields xs)

  pub view_of_null : view content InputValue.Null ≡ Null
  view_of_null = search (rules, the_lemmas)

  pub view_of_scalar : (x : S) → view content (InputValue.Scalar x) ≡ Scalar (content x)
  view_of_scalar x = search (rules, the_lemmas)

  pub view_of_enum : (x : String Global) → view content (InputValue.Enum x) ≡ Enum (text_of x)
  view_of_enum x = search (rules, the_lemmas)

  pub view_of_variable : (x : String Global) → view content (InputValue.Variable x) ≡ Variable (text_of x)
  view_of_variable x = search (rules, the_lemmas)

  pub view_of_list : (v : Vec (Spanning (InputValue S)) Global)
      → view content (InputValue.List v) ≡ ListOf (items_of (map (view_value content) v.items))
  view_of_list v = view-List content v ∙ ap ListOf (items v.items)

  pub view_of_object : (v : Vec (Spanning (String Global) × Spanning (InputValue S)) Global)
      → view content (InputValue.Object v) ≡ Object (fields_of (map (view_object_field content) v.items))
  view_of_object v = view-Object content v ∙ ap Object (fields v.items)
