-- Answer values as input values.
use Rattle.graphql_grammar.specs.Tree as input
use Rattle.juniper_values.specs.Make.{unlocated}
use Rattle.juniper_answers.specs.Data.{Data, null, scalar, list, object, Items, no_items, item, Fields, no_fields, field}

module _ {C : Type 0} where
  -- the same null, scalar, items or fields in their order, each without a place
  abbrev mutual
    pub as_input : Data C → input.Value C
    as_input null = input.Null
    as_input (scalar c) = input.Scalar c
    as_input (list ds) = input.ListOf (items_as_input ds)
    as_input (object fs) = input.Object (fields_as_input fs)

    pub items_as_input : Items C → input.Items C
    items_as_input no_items = input.no_items
    items_as_input (item d ds) = input.item (as_input d) unlocated (items_as_input ds)

    pub fields_as_input : Fields C → input.ObjectFields C
    fields_as_input no_fields = input.no_fields
    fields_as_input (field k d fs) =
        input.object_field (record { item = k; span = unlocated }) (as_input d) unlocated (fields_as_input fs)
