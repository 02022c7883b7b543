-- The text of a value, by the texts of its parts.
use Rattle.std.proofs.Common.{◌≡◌, ◌<◌, ◌≤◌, ◌+◌, ◌∙◌, ◌++◌, ◌∷◌, ℕ, List, [], length, get_or, drop, ap}
use Rattle.std.proofs.Common.{String, Global, Vec}
use Rattle.std.proofs.lemmas.List.{at_drop_all}
use Rattle.std.specs.Prelude.{codes}
use Rattle.juniper_tokens.specs.declared.span.Spanning.{Spanning}
use Rattle.juniper_values.specs.Display.{value_text, item_texts, field_texts, joined}
use Rattle.juniper_values.specs.Text.{Text}
use Rattle.juniper_values.specs.View.{view, view_items, view_fields, text_of}
use Rattle.juniper_values.specs.declared.input_value.InputValue.{InputValue}
use Rattle.juniper_values.specs.declared.input_value.InputValue.TheVariants as InputValue
use Rattle.juniper_values.proofs.Reading.{drop_read}
use Rattle.juniper_values.proofs.Trees.{view-List, view-Object}

module _ {S : Type 0} (shown : S → Text) where
  abbrev pub texts_of_items : List (Spanning (InputValue S)) → List Text
  texts_of_items xs = item_texts shown (view_items (λ s. s) xs)

  abbrev pub texts_of_fields : List (Spanning (String Global) × Spanning (InputValue S)) → List Text
  texts_of_fields xs = field_texts shown (view_fields (λ s. s) xs)

  pub list_text : (value : InputValue S) (items : Vec (Spanning (InputValue S)) Global) → value ≡ InputValue.List items
      → value_text shown (view (λ s. s) value) ≡ codes "[" ++ (joined (texts_of_items items.items) ++ codes "]")
  list_text value items e =
      ap (λ v. value_text shown (view (λ s. s) v)) e ∙ ap (value_text shown) (view-List (λ s. s) items)

  pub object_text : (value : InputValue S) (fields : Vec (Spanning (String Global) × Spanning (InputValue S)) Global)
      → value ≡ InputValue.Object fields
      → value_text shown (view (λ s. s) value) ≡ codes "{" ++ (joined (texts_of_fields fields.items) ++ codes "}")
  object_text value fields e =
      ap (λ v. value_text shown (view (λ s. s) v)) e ∙ ap (value_text shown) (view-Object (λ s. s) fields)

  -- the texts that are left before an item is written
  pub item_next : (xs : List (Spanning (InputValue S))) (i : ℕ) (x : Spanning (InputValue S)) → i < length xs
      → x ≡ get_or xs i x
      → texts_of_items (drop i xs) ≡ value_text shown (view (λ s. s) x.item) ∷ texts_of_items (drop (i + 1) xs)
  item_next xs i x lt e = ap texts_of_items (drop_read xs i x lt e)

  pub no_item : (xs : List (Spanning (InputValue S))) (i : ℕ) → length xs ≤ i → texts_of_items (drop i xs) ≡ []
  no_item = at_drop_all texts_of_items

  -- the same of a field
  pub field_next : (xs : List (Spanning (String Global) × Spanning (InputValue S))) (i : ℕ)
      → (x : Spanning (String Global) × Spanning (InputValue S)) → i < length xs → x ≡ get_or xs i x
      → texts_of_fields (drop i xs)
      ≡ (text_of x.0.item ++ (codes ": " ++ value_text shown (view (λ s. s) x.1.item)))
      ∷ texts_of_fields (drop (i + 1) xs)
  field_next xs i x lt e = ap texts_of_fields (drop_read xs i x lt e)

  pub no_field : (xs : List (Spanning (String Global) × Spanning (InputValue S))) (i : ℕ) → length xs ≤ i
      → texts_of_fields (drop i xs) ≡ []
  no_field = at_drop_all texts_of_fields
