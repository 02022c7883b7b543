-- What an answer value is written as: the events that it sends to a writer of JSON. Each scalar, item and field is sent
-- once, in order.
use Rattle.std.specs.Prelude.{◌≡◌, ℕ, suc, List, [], ◌∷◌, ◌++◌, Some, None, ⊤}
use Rattle.std.specs.Str.{encode_utf8_all}
use Rattle.serde.specs.Event as event
use Rattle.serde.specs.Event.{Event, Log}
use Rattle.serde.specs.declared.name.Case.TheVariants.{AsIs}
use Rattle.juniper_values.specs.Scalar.{Content, integer, text, boolean, custom}
use Rattle.juniper_answers.specs.Data.{Data, null, scalar, list, object, Items, no_items, item}
use Rattle.juniper_answers.specs.Data.{Fields, no_fields, field}

abbrev pub scalar_event : Content → Event
scalar_event (integer n) = event.signed n
scalar_event (text t) = event.text (encode_utf8_all t)
scalar_event (boolean b) = event.boolean b
scalar_event (custom ns) = event.nothing

abbrev pub item_count : Items Content → ℕ
item_count no_items = 0
item_count (item d ds) = suc (item_count ds)

abbrev pub field_count : Fields Content → ℕ
field_count no_fields = 0
field_count (field key d ds) = suc (field_count ds)

abbrev mutual
  pub events : Data Content → List Event
  events null = event.nothing ∷ []
  events (scalar content) = scalar_event content ∷ []
  events (list items) = event.seq_begins (Some (item_count items)) ∷ (item_events items ++ event.seq_ends ∷ [])
  events (object fields) = event.map_begins (Some (field_count fields)) ∷ (field_events fields ++ event.map_ends ∷ [])

  pub item_events : Items Content → List Event
  item_events no_items = []
  item_events (item d ds) = events d ++ item_events ds

  pub field_events : Fields Content → List Event
  field_events no_fields = []
  field_events (field key d ds) = event.field_key (encode_utf8_all key) AsIs ∷ (events d ++ field_events ds)

-- Where a writer keeps what was sent, these events were added.
abbrev pub Grows : List Event → Log → Log → Type 0
Grows es None new = ⊤
Grows es (Some before) new = new ≡ Some (before ++ es)
