-- The text of a value, by the texts of its parts.
use Rattle.std.proofs.Common.{◌≡◌, ◌<◌, ◌≤◌, ◌+◌, ◌∙◌, ◌++◌, ◌∷◌, ℕ, List, [], length, get_or, drop, ap}
use Rattle.std.proofs.Common.{String, Global, Vec}
use Rattle.std.proofs.lemmas.List.{at_drop_all}
use Rattle.std.specs.Prelude.{codes}
use Rattle.juniper_values.specs.Display.{joined}
use Rattle.juniper_values.specs.Text.{Text}
use Rattle.juniper_values.proofs.Public.{drop_read}
use Rattle.juniper_answers.specs.Display.{data_text, item_texts, field_texts}
use Rattle.juniper_answers.specs.View.{shape, items_view, fields_view, pairs}
use Rattle.juniper_answers.specs.declared.value.Object.{Object}
use Rattle.juniper_answers.specs.declared.value.Value.{Value}
use Rattle.juniper_answers.specs.declared.value.Value as V
use Rattle.juniper_answers.proofs.Views.{view-List, view-Object}

module _ {S : Type 0} (shown : S → Text) where
  abbrev pub texts_of_items : List (Value S) → List Text
  texts_of_items xs = item_texts shown (items_view (λ s. s) xs)

  abbrev pub texts_of_fields : List (String Global × Value S) → List Text
  texts_of_fields es = field_texts shown (fields_view (λ s. s) es)

  pub list_text : (value : Value S) (items : Vec (Value S) Global) → value ≡ V.List items
      → data_text shown (shape value) ≡ codes "[" ++ (joined (texts_of_items items.items) ++ codes "]")
  list_text value items e = ap (λ v. data_text shown (shape v)) e ∙ ap (data_text shown) (view-List (λ s. s) items)

  pub object_text : (value : Value S) (object : Object S) → value ≡ V.Object object
      → data_text shown (shape value) ≡ codes "{" ++ (joined (texts_of_fields (pairs object)) ++ codes "}")
  object_text value object e =
      ap (λ v. data_text shown (shape v)) e ∙ ap (data_text shown) (view-Object (λ s. s) object)

  -- the texts that are left before an item is written
  pub item_next : (xs : List (Value S)) (i : ℕ) (x : Value S) → i < length xs → x ≡ get_or xs i x
      → texts_of_items (drop i xs) ≡ data_text shown (shape x) ∷ texts_of_items (drop (i + 1) xs)
  item_next xs i x lt e = ap texts_of_items (drop_read xs i x lt e)

  pub no_item : (xs : List (Value S)) (i : ℕ) → length xs ≤ i → texts_of_items (drop i xs) ≡ []
  no_item = at_drop_all texts_of_items
