-- How an answer value is shown.
use Rattle.std.specs.Prelude.{List, [], ◌∷◌, ◌++◌, codes}
use Rattle.graphql_lexical.specs.Display.{quoted}
use Rattle.juniper_values.specs.Text.{Text}
use Rattle.juniper_values.specs.Display.{joined}
use Rattle.juniper_answers.specs.Data.{Data, null, scalar, list, object, Items, no_items, item, Fields, no_fields, field}

-- `shown` is how a scalar is shown.
module _ {C : Type 0} (shown : C → Text) where
  abbrev mutual
    pub data_text : Data C → Text
    data_text null = codes "null"
    data_text (scalar c) = shown c
    data_text (list ds) = codes "[" ++ (joined (item_texts ds) ++ codes "]")
    data_text (object fs) = codes "{" ++ (joined (field_texts fs) ++ codes "}")

    pub item_texts : Items C → List Text
    item_texts no_items = []
    item_texts (item d ds) = data_text d ∷ item_texts ds

    pub field_texts : Fields C → List Text
    field_texts no_fields = []
    field_texts (field k d fs) = (quoted k ++ (codes ": " ++ data_text d)) ∷ field_texts fs
