-- The data that a value stands for.
use Rattle.std.specs.Prelude.{List, [], ◌∷◌, map, String, string_bytes}
use Rattle.juniper_answers.specs.Entries.{entries_of}
use Rattle.std.specs.Str.{chars}
use Rattle.std.specs.declared.alloc.Global.{Global}
use Rattle.juniper_answers.specs.Data.{Data, null, scalar, list, object, Items, no_items, item, Fields, no_fields, field}
use Rattle.juniper_answers.specs.declared.value.Value.{Value, fold-Value}
use Rattle.juniper_answers.specs.declared.value.Value.TheOpen.{Value-F, Object-F}
use Rattle.juniper_answers.specs.declared.value.Object.{Object}

-- the fields of an object, in order
abbrev pub pairs : {S : Type 0} → Object S → List (String Global × Value S)
pairs o = entries_of o.entries

module _ {C : Type 0} where
  abbrev pub items_of : List (Data C) → Items C
  items_of [] = no_items
  items_of (d ∷ ds) = item d (items_of ds)

  abbrev pub fields_of : List (String Global × Data C) → Fields C
  fields_of [] = no_fields
  fields_of (p ∷ ps) = field (chars (string_bytes p.0)) p.1 (fields_of ps)

module _ {S C : Type 0} (content : S → C) where
  -- one level, with what is inside already seen as its data
  abbrev pub value_step : Value-F S (Data C) (Fields C) → Data C
  value_step Value-F.Null = null
  value_step (Value-F.Scalar s) = scalar (content s)
  value_step (Value-F.List v) = list (items_of v.items)
  value_step (Value-F.Object o) = object o

  abbrev pub object_step : Object-F S (Data C) (Fields C) → Fields C
  object_step o = fields_of (entries_of o.entries)

  abbrev pub view : Value S → Data C
  view = fold-Value S (Data C) (Fields C) value_step object_step

  abbrev pub items_view : List (Value S) → Items C
  items_view vs = items_of (map view vs)

  abbrev pub fields_view : List (String Global × Value S) → Fields C
  fields_view ps = fields_of (map (λ p. (p.0, view p.1)) ps)

-- a value with its scalars as they are
abbrev pub shape : {S : Type 0} → Value S → Data S
shape = view (λ s. s)
