-- Objects as maps, and lists.
use Rattle.std.specs.Prelude.{List, [], ◌∷◌, Option, Some, None, if◌then◌else◌}
use Rattle.juniper_values.specs.Text.{Text, same_text}
use Rattle.graphql_grammar.specs.Tree.{Value, ListOf, Object, Items, no_items, item, ObjectFields, no_fields, object_field}

-- the pairs after a value is put at a key: in the place of the value that is there, or as the last pair
abbrev pub put : {V : Type 0} → List (Text × V) → Text → V → List (Text × V)
put [] k v = (k, v) ∷ []
put (p ∷ ps) k v = if same_text k p.0 then (p.0, v) ∷ ps else p ∷ put ps k v

module _ {C : Type 0} where
  -- each field put into the pairs in turn
  abbrev pub put_all : List (Text × Value C) → ObjectFields C → List (Text × Value C)
  put_all ps no_fields = ps
  put_all ps (object_field k v t fs) = put_all (put ps k.item v) fs

  -- the fields as a map: a repeated key keeps its first place and takes the last value
  abbrev pub as_map : ObjectFields C → List (Text × Value C)
  as_map fs = put_all [] fs

  abbrev pub map_of : Value C → Option (List (Text × Value C))
  map_of (Object fs) = Some (as_map fs)
  map_of v = None

  abbrev pub values_of : Items C → List (Value C)
  values_of no_items = []
  values_of (item v s xs) = v ∷ values_of xs

  -- the items of a list, without their places
  abbrev pub list_of : Value C → Option (List (Value C))
  list_of (ListOf xs) = Some (values_of xs)
  list_of v = None
