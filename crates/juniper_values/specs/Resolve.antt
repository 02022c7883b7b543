-- Variables replaced by their values.
use Rattle.std.specs.Prelude.{◌≡◌, Bool, true, Option, Some, None}
use Rattle.std.specs.Option.{option_eq}
use Rattle.graphql_lexical.specs.Place.{Span}
use Rattle.juniper_values.specs.Text.{Text}
use Rattle.juniper_values.specs.Equality.{same_value}
use Rattle.graphql_grammar.specs.Tree.{Value, Null, Scalar, Enum, Variable, ListOf, Object, Items, no_items, item, ObjectFields, no_fields, object_field}
use Rattle.graphql_grammar.specs.Tokens.{Word}

-- the value of each variable, where there is one
abbrev pub Values : Type 0 → Type 0
Values C = Text → Option (Value C)

abbrev pub or_null : {C : Type 0} → Option (Value C) → Value C
or_null None = Null
or_null (Some v) = v

-- the field before the others, if it has a value
abbrev pub field_if : {C : Type 0} → Word → Option (Value C) → Span → ObjectFields C → ObjectFields C
field_if k None t fs = fs
field_if k (Some v) t fs = object_field k v t fs

-- What a value becomes. A variable becomes its value, in which no variable is replaced, or nothing where it has none.
-- An item of a list that becomes nothing is null, and a field of an object that does is left out.
abbrev mutual
  pub resolve : {C : Type 0} → Values C → Value C → Option (Value C)
  resolve m Null = Some Null
  resolve m (Scalar s) = Some (Scalar s)
  resolve m (Enum t) = Some (Enum t)
  resolve m (Variable t) = m t
  resolve m (ListOf xs) = Some (ListOf (resolve_items m xs))
  resolve m (Object fs) = Some (Object (resolve_fields m fs))

  pub resolve_items : {C : Type 0} → Values C → Items C → Items C
  resolve_items m no_items = no_items
  resolve_items m (item v s xs) = item (or_null (resolve m v)) s (resolve_items m xs)

  pub resolve_fields : {C : Type 0} → Values C → ObjectFields C → ObjectFields C
  resolve_fields m no_fields = no_fields
  resolve_fields m (object_field k v t fs) = field_if k (resolve m v) t (resolve_fields m fs)

-- What a value may become, scalar by scalar: a scalar of its own is itself, and what replaces a variable equals the
-- variable's value, scalars by `eq`.
module _ {S : Type 0} (eq : S → S → Bool) (m : Values S) where
  abbrev mutual
    pub Becomes : Value S → Option (Value S) → Type 0
    Becomes (Variable t) o = option_eq (same_value eq) (m t) o ≡ true
    Becomes (ListOf xs) o = (ys : Items S) × (o ≡ Some (ListOf ys)) × ItemsBecome xs ys
    Becomes (Object fs) o = (gs : ObjectFields S) × (o ≡ Some (Object gs)) × FieldsBecome fs gs
    Becomes v o = o ≡ Some v

    pub ItemsBecome : Items S → Items S → Type 0
    ItemsBecome no_items ys = ys ≡ no_items
    ItemsBecome (item v s xs) ys = (o : Option (Value S)) × (rest : Items S) × (ys ≡ item (or_null o) s rest)
        × Becomes v o × ItemsBecome xs rest

    pub FieldsBecome : ObjectFields S → ObjectFields S → Type 0
    FieldsBecome no_fields gs = gs ≡ no_fields
    FieldsBecome (object_field k v t fs) gs = (o : Option (Value S)) × (rest : ObjectFields S)
        × (gs ≡ field_if k o t rest) × Becomes v o × FieldsBecome fs rest
