-- Which kind of value an answer value is.
use Rattle.std.specs.Prelude.{Bool, true, false, Option, Some, None}
use Rattle.juniper_answers.specs.Data.{Data, null, scalar, list, object, Items, Fields}

module _ {C : Type 0} where
  abbrev pub is_null : Data C → Bool
  is_null null = true
  is_null d = false

  abbrev pub scalar_in : Data C → Option C
  scalar_in (scalar c) = Some c
  scalar_in d = None

  abbrev pub list_in : Data C → Option (Items C)
  list_in (list items) = Some items
  list_in d = None

  abbrev pub object_in : Data C → Option (Fields C)
  object_in (object fields) = Some fields
  object_in d = None
