-- The variables in an input value.
use Rattle.std.specs.Prelude.{List, [], ◌∷◌, ◌++◌}
use Rattle.graphql_lexical.specs.Place.{Span}
use Rattle.juniper_values.specs.Text.{Text}
use Rattle.graphql_grammar.specs.Tree.{Value, Null, Scalar, Enum, Variable, ListOf, Object, Items, no_items, item, ObjectFields, no_fields, object_field}
use Rattle.graphql_grammar.specs.Tokens.{Word}

-- their names, from left to right, repeats kept
abbrev mutual
  pub variables : {C : Type 0} → Value C → List Text
  variables Null = []
  variables (Scalar s) = []
  variables (Enum t) = []
  variables (Variable t) = t ∷ []
  variables (ListOf xs) = item_variables xs
  variables (Object fs) = field_variables fs

  pub item_variables : {C : Type 0} → Items C → List Text
  item_variables no_items = []
  item_variables (item v s xs) = variables v ++ item_variables xs

  pub field_variables : {C : Type 0} → ObjectFields C → List Text
  field_variables no_fields = []
  field_variables (object_field k v t fs) = variables v ++ field_variables fs

-- their uses: each name with its span, from left to right, repeats kept. The value itself has this span.
abbrev mutual
  pub variable_uses : {C : Type 0} → Span → Value C → List Word
  variable_uses span Null = []
  variable_uses span (Scalar s) = []
  variable_uses span (Enum t) = []
  variable_uses span (Variable t) = record { item = t; span = span } ∷ []
  variable_uses span (ListOf xs) = item_uses xs
  variable_uses span (Object fs) = field_uses fs

  pub item_uses : {C : Type 0} → Items C → List Word
  item_uses no_items = []
  item_uses (item v s xs) = variable_uses s v ++ item_uses xs

  pub field_uses : {C : Type 0} → ObjectFields C → List Word
  field_uses no_fields = []
  field_uses (object_field k v t fs) = variable_uses t v ++ field_uses fs

-- A variable of this name stands in the value.
mutual
  pub data Refers {C : Type 0} : Value C → Text → Type 0 where
    here : (t : Text) → Refers (Variable t) t
    in_list : (xs : Items C) (t : Text) → ItemRefers xs t → Refers (ListOf xs) t
    in_object : (fs : ObjectFields C) (t : Text) → FieldRefers fs t → Refers (Object fs) t

  pub data ItemRefers {C : Type 0} : Items C → Text → Type 0 where
    first_item : (v : Value C) (s : Span) (xs : Items C) (t : Text) → Refers v t → ItemRefers (item v s xs) t
    later_item : (v : Value C) (s : Span) (xs : Items C) (t : Text) → ItemRefers xs t → ItemRefers (item v s xs) t

  pub data FieldRefers {C : Type 0} : ObjectFields C → Text → Type 0 where
    first_field : (k : Word) (v : Value C) (s : Span) (fs : ObjectFields C) (t : Text) → Refers v t
        → FieldRefers (object_field k v s fs) t
    later_field : (k : Word) (v : Value C) (s : Span) (fs : ObjectFields C) (t : Text) → FieldRefers fs t
        → FieldRefers (object_field k v s fs) t

-- no variable stands in the value
abbrev pub HasNoVariable : {C : Type 0} → Value C → Type 0
HasNoVariable v = (t : Text) → ¬ (Refers v t)
