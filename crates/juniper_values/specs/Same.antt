-- Equality of input values regardless of their places.
use Rattle.std.specs.Prelude.{ℕ, ◌+◌, ◌==◌, Bool, true, false, ◌&&◌, ◌||◌, List, [], ◌∷◌}
use Rattle.juniper_values.specs.Text.{Text, same_text}
use Rattle.graphql_grammar.specs.Tree.{Value, Null, Scalar, Enum, Variable, ListOf, Object, Items, no_items, item, ObjectFields, no_fields, object_field}

-- A field as the test that it makes of others: one with its key, and with a value that passes.
abbrev pub Wanted : Type 0 → Type 0
Wanted C = Text × (Value C → Bool)

module _ {C : Type 0} where
  abbrev pub field_count : ObjectFields C → ℕ
  field_count no_fields = 0
  field_count (object_field k v t fs) = field_count fs + 1

  -- some field has the wanted key, and a value that passes
  abbrev pub is_found : Wanted C → ObjectFields C → Bool
  is_found w no_fields = false
  is_found w (object_field k v t fs) = (same_text w.0 k.item && w.1 v) || is_found w fs

  -- each one that is wanted is found among the fields
  abbrev pub all_found : List (Wanted C) → ObjectFields C → Bool
  all_found [] fs = true
  all_found (w ∷ ws) fs = is_found w fs && all_found ws fs

  -- the field is one that is wanted
  abbrev pub is_wanted : Text → Value C → List (Wanted C) → Bool
  is_wanted k v [] = false
  is_wanted k v (w ∷ ws) = (same_text w.0 k && w.1 v) || is_wanted k v ws

  -- each field is one that is wanted
  abbrev pub all_wanted : List (Wanted C) → ObjectFields C → Bool
  all_wanted ws no_fields = true
  all_wanted ws (object_field k v t fs) = is_wanted k.item v ws && all_wanted ws fs

-- `eq` compares scalars. Two objects of one length are so where each field of either has in the other a field with the
-- same key and with a value that is so.
module _ {C : Type 0} (eq : C → C → Bool) where
  abbrev mutual
    pub same_but_place : Value C → Value C → Bool
    same_but_place Null Null = true
    same_but_place (Scalar a) (Scalar b) = eq a b
    same_but_place (Enum a) (Enum b) = same_text a b
    same_but_place (Variable a) (Variable b) = same_text a b
    same_but_place (ListOf xs) (ListOf ys) = same_items_but_place xs ys
    same_but_place (Object fs) (Object gs) = field_count fs == field_count gs
        && (all_found (wanted fs) gs && all_wanted (wanted fs) gs)
    same_but_place v w = false

    pub same_items_but_place : Items C → Items C → Bool
    same_items_but_place no_items no_items = true
    same_items_but_place (item v s xs) (item w t ys) = same_but_place v w && same_items_but_place xs ys
    same_items_but_place xs ys = false

    pub wanted : ObjectFields C → List (Wanted C)
    wanted no_fields = []
    wanted (object_field k v t fs) = (k.item, same_but_place v) ∷ wanted fs
