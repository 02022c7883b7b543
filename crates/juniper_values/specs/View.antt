-- The tree that an `InputValue` stands for.
use Rattle.std.specs.Prelude.{ℕ, List, [], ◌∷◌, map, String, string_bytes, Option, option_map}
use Rattle.std.specs.Borrow.{Bor}
use Rattle.std.specs.Str.{chars}
use Rattle.std.specs.HashMap.{HashMap, get_by}
use Rattle.std.specs.declared.alloc.Global.{Global}
use Rattle.juniper_tokens.specs.Spans.{view_span}
use Rattle.juniper_values.specs.Text.{Text, same_text}
use Rattle.juniper_tokens.specs.declared.span.Spanning.{Spanning}
use Rattle.graphql_grammar.specs.Tree.{Value, Null, Scalar, Enum, Variable, ListOf, Object, Items, no_items, item, ObjectFields, no_fields, object_field}
use Rattle.juniper_values.specs.declared.input_value.InputValue.{InputValue, fold-InputValue}
use Rattle.juniper_values.specs.declared.input_value.InputValue.TheOpen.{InputValue-F}
use Rattle.graphql_grammar.specs.Tokens.{Located, Word}

abbrev pub text_of : String Global → Text
text_of s = chars (string_bytes s)

-- a part of the code where it stands, by its view
abbrev pub view_located : {X A : Type 0} → (X → A) → Spanning X → Located A
view_located view x = record { item = view x.item; span = view_span x.span }

-- a name that is borrowed, by its characters, and these alone
abbrev pub view_name : Spanning (Bor (List ℕ)) → Word
view_name = view_located (λ name. chars name.now)

abbrev pub name_characters : Spanning (Bor (List ℕ)) → Text
name_characters name = chars name.item.now

module _ {C : Type 0} where
  abbrev pub items_of : List (Spanning (Value C)) → Items C
  items_of [] = no_items
  items_of (x ∷ xs) = item x.item (view_span x.span) (items_of xs)

  abbrev pub fields_of : List (Spanning (String Global) × Spanning (Value C)) → ObjectFields C
  fields_of [] = no_fields
  fields_of (x ∷ xs) = object_field (view_located text_of x.0) x.1.item (view_span x.1.span) (fields_of xs)

module _ {S C : Type 0} (known_by : S → C) where
  -- one level, with each value inside already seen as its tree
  abbrev pub view_step : InputValue-F S (Value C) → Value C
  view_step InputValue-F.Null = Null
  view_step (InputValue-F.Scalar s) = Scalar (known_by s)
  view_step (InputValue-F.Enum t) = Enum (text_of t)
  view_step (InputValue-F.Variable t) = Variable (text_of t)
  view_step (InputValue-F.List v) = ListOf (items_of v.items)
  view_step (InputValue-F.Object v) = Object (fields_of v.items)

  abbrev pub view : InputValue S → Value C
  view = fold-InputValue S (Value C) view_step

  abbrev pub view_spanning : Spanning (InputValue S) → Spanning (Value C)
  view_spanning x = record { item = view x.item; span = x.span }

  abbrev pub view_items : List (Spanning (InputValue S)) → Items C
  view_items xs = items_of (map view_spanning xs)

  abbrev pub view_fields : List (Spanning (String Global) × Spanning (InputValue S)) → ObjectFields C
  view_fields xs = fields_of (map (λ x. (x.0, view_spanning x.1)) xs)

  -- the variables' values, as a function of the names
  abbrev pub values_in : {H : Type 0} → HashMap (String Global) (InputValue S) H → Text → Option (Value C)
  values_in m t = option_map view (get_by (λ k. same_text t (text_of k)) m)
