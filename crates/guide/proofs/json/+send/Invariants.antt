use Rattle.std.proofs.Common.{◌≡◌, ◌+◌, ◌*◌, ◌++◌, List, String, Global, drop}
use Rattle.serde.specs.Event.{Log}
use Rattle.juniper_values.specs.Default.{default_content}
use Rattle.juniper_values.specs.declared.default_scalar.DefaultScalarValue.{DefaultScalarValue}
use Rattle.juniper_answers.specs.View.{items_view, fields_view, pairs}
use Rattle.juniper_answers.specs.declared.value.Value.{Value}
use Rattle.guide.specs.Json.{Grows, item_events, field_events}
use Rattle.guide.proofs.json.+send.Given as goal

-- with the events of the items that are left, it has those of all
abbrev pub invariant-send_items-loop-item : goal.invariant-send_items-loop-item
invariant-send_items-loop-item g l =
    (end : Log)
    → Grows (item_events (items_view default_content (drop l.item-index l.item-items)))
    (g.T.Serializer.written l.out) end
    → Grows (item_events (items_view default_content l.item-items)) (g.T.Serializer.written l.initial.out) end

abbrev pub invariant-send_fields-loop-key : goal.invariant-send_fields-loop-key
invariant-send_fields-loop-key g l =
    record {
      split : (done : List (String Global × Value DefaultScalarValue)) × (pairs l.object ≡ done ++ l.key-iterator);
      sent : (end : Log)
          → Grows (field_events (fields_view default_content l.key-iterator)) (g.T.Serializer.written l.out) end
          → Grows (field_events (fields_view default_content (pairs l.object)))
          (g.T.Serializer.written l.initial.out) end;
    }

abbrev pub decreases-send : goal.decreases-send
decreases-send g l = 2 * goal.size-send g l

abbrev pub decreases-send_items : goal.decreases-send_items
decreases-send_items g l = 2 * goal.size-send_items g l + 1

abbrev pub decreases-send_fields : goal.decreases-send_fields
decreases-send_fields g l = 2 * goal.size-send_fields g l + 1
