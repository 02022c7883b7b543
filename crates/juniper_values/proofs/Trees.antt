-- Items and fields as a loop makes them.
use Rattle.std.proofs.Common.{◌≡◌, refl, List, [], ◌∷◌, ap, String, Global, Vec, Option, Some, None, option_map, unwrap_or, rules}
use Rattle.juniper_tokens.specs.declared.span.Spanning.{Spanning}
use Rattle.graphql_grammar.specs.Tree.{Null, ListOf, Object, Items, no_items, item, ObjectFields, no_fields, object_field}
use Rattle.juniper_tokens.specs.Spans.{view_span}
use Rattle.juniper_values.specs.View.{view, view_items, view_fields, text_of, view_located}
use Rattle.juniper_values.specs.Resolve.{or_null}
use Rattle.juniper_values.specs.declared.input_value.InputValue.{InputValue, the_lemmas}
use Rattle.juniper_values.specs.declared.input_value.InputValue.TheVariants as InputValue
use Rattle.juniper_values.proofs.Reading.{prepend}

module _ {S C : Type 0} (known_by : S → C) where
  abbrev pub put_item : Spanning (InputValue S) → Items C → Items C
  put_item x xs = item (view known_by x.item) (view_span x.span) xs

  abbrev pub put_field : Spanning (String Global) × Spanning (InputValue S) → ObjectFields C → ObjectFields C
  put_field x xs = object_field (view_located text_of x.0) (view known_by x.1.item) (view_span x.1.span) xs

  pub view_items-prepend : (xs : List (Spanning (InputValue S))) → view_items known_by xs ≡ prepend put_item xs no_items
  view_items-prepend [] = refl
  view_items-prepend (x ∷ xs) = ap (put_item x) (view_items-prepend xs)

  pub view_fields-prepend : (xs : List (Spanning (String Global) × Spanning (InputValue S)))
      → view_fields known_by xs ≡ prepend put_field xs no_fields
  view_fields-prepend [] = refl
  view_fields-prepend (x ∷ xs) = ap (put_field x) (view_fields-prepend xs)

  pub view-Null : view known_by InputValue.Null ≡ Null
  view-Null = search (rules, the_lemmas)

  pub view-List : (v : Vec (Spanning (InputValue S)) Global)
      → view known_by (InputValue.List v) ≡ ListOf (view_items known_by v.items)
  view-List v = search (rules, the_lemmas)

  pub view-Object : (v : Vec (Spanning (String Global) × Spanning (InputValue S)) Global)
      → view known_by (InputValue.Object v) ≡ Object (view_fields known_by v.items)
  view-Object v = search (rules, the_lemmas)

  pub view_or_null : (o : Option (InputValue S))
      → view known_by (unwrap_or o InputValue.Null) ≡ or_null (option_map (view known_by) o)
  view_or_null None = view-Null
  view_or_null (Some v) = refl
