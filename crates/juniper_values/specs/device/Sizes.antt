-- A device: how many values a value consists of, by which a comparison of objects chooses the field that it compares once.
use Rattle.std.specs.Prelude.{ℕ, zero, suc, ◌+◌, ◌-◌, ◌^◌, min}
use Rattle.graphql_grammar.specs.Tree.{Value, Null, Scalar, Enum, Variable, ListOf, Object, Items, no_items, item, ObjectFields, no_fields, object_field}

module _ {C : Type 0} where
  abbrev mutual
    -- itself and all in it
    pub value_count : Value C → ℕ
    value_count Null = 1
    value_count (Scalar content) = 1
    value_count (Enum name) = 1
    value_count (Variable name) = 1
    value_count (ListOf xs) = 1 + item_count xs
    value_count (Object fs) = 1 + held_count fs

    pub item_count : Items C → ℕ
    item_count no_items = 0
    item_count (item v s xs) = value_count v + item_count xs

    pub held_count : ObjectFields C → ℕ
    held_count no_fields = 0
    held_count (object_field k v t fs) = value_count v + held_count fs

  -- of the field at this index
  abbrev pub count_at : ℕ → ObjectFields C → ℕ
  count_at n no_fields = 0
  count_at zero (object_field k v t fs) = value_count v
  count_at (suc n) (object_field k v t fs) = count_at n fs

-- a count that saturates
abbrev pub saturated : ℕ → ℕ
saturated n = min n (2 ^ 64 - 1)
