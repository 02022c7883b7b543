-- How an input value is shown.
use Rattle.std.specs.Prelude.{Bool, true, false, List, [], ◌∷◌, ◌++◌, codes}
use Rattle.juniper_values.specs.Text.{Text}
use Rattle.graphql_grammar.specs.Tree.{Value, Null, Scalar, Enum, Variable, ListOf, Object, Items, no_items, item, ObjectFields, no_fields, object_field}

-- what stands before a text, unless it is the first
abbrev pub separator : Bool → Text
separator true = []
separator false = 44 ∷ 32 ∷ []

-- each of the texts, with a comma and a space before it
abbrev pub after_commas : List Text → Text
after_commas [] = []
after_commas (t ∷ ts) = separator false ++ (t ++ after_commas ts)

-- the texts, with a comma and a space between them
abbrev pub joined : List Text → Text
joined [] = []
joined (t ∷ ts) = t ++ after_commas ts

-- `shown` is how a scalar is shown.
module _ {C : Type 0} (shown : C → Text) where
  abbrev mutual
    pub value_text : Value C → Text
    value_text Null = codes "null"
    value_text (Scalar s) = shown s
    value_text (Enum t) = t
    value_text (Variable t) = codes "$" ++ t
    value_text (ListOf xs) = codes "[" ++ (joined (item_texts xs) ++ codes "]")
    value_text (Object fs) = codes "{" ++ (joined (field_texts fs) ++ codes "}")

    pub item_texts : Items C → List Text
    item_texts no_items = []
    item_texts (item v s xs) = value_text v ∷ item_texts xs

    pub field_texts : ObjectFields C → List Text
    field_texts no_fields = []
    field_texts (object_field k v t fs) = (k.item ++ (codes ": " ++ value_text v)) ∷ field_texts fs
