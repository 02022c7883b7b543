use Rattle.std.proofs.Common.{◌≡◌, ◌+◌, ◌*◌, ◌++◌, List, String, Global, drop}
use Rattle.juniper_values.proofs.Public.{prepend, put_item, put_field}
use Rattle.juniper_answers.specs.Input.{items_as_input, fields_as_input}
use Rattle.juniper_answers.specs.View.{items_view, fields_view, pairs}
use Rattle.juniper_answers.specs.declared.value.Value.{Value}
use Rattle.juniper_answers.proofs.inputs.+input.Given as goal

abbrev pub invariant-input_items-loop-item : goal.invariant-input_items-loop-item
invariant-input_items-loop-item g l =
    let content = g.S.ParseScalarValue.content in
    prepend (put_item content) l.made.items (items_as_input (items_view content (drop l.item-index l.item-items)))
    ≡ items_as_input (items_view content l.item-items)

abbrev pub invariant-input_fields-loop-key : goal.invariant-input_fields-loop-key
invariant-input_fields-loop-key g l =
    let content = g.S.ParseScalarValue.content in
    record {
      split : (done : List (String Global × Value g.row.S.Denot)) × (pairs l.object ≡ done ++ l.key-iterator);
      made : prepend (put_field content) l.made.items (fields_as_input (fields_view content l.key-iterator))
          ≡ fields_as_input (fields_view content (pairs l.object));
    }

abbrev pub decreases-input_of : goal.decreases-input_of
decreases-input_of g l = 2 * goal.size-input_of g l

abbrev pub decreases-input_items : goal.decreases-input_items
decreases-input_items g l = 2 * goal.size-input_items g l + 1

abbrev pub decreases-input_fields : goal.decreases-input_fields
decreases-input_fields g l = 2 * goal.size-input_fields g l + 1
