use Rattle.std.proofs.Common.{◌≡◌, ◌+◌, ◌*◌, ◌++◌, List, String, Global, drop}
use Rattle.juniper_values.specs.ScalarDisplay.{scalar_display}
use Rattle.juniper_values.proofs.Public.{TextsLeft}
use Rattle.juniper_answers.specs.View.{pairs}
use Rattle.juniper_answers.specs.declared.value.Value.{Value}
use Rattle.juniper_answers.proofs.DataTexts.{texts_of_items, texts_of_fields}
use Rattle.juniper_answers.proofs.display.+display.Given as goal

abbrev pub invariant-write_items-loop-item : goal.invariant-write_items-loop-item
invariant-write_items-loop-item g l =
    let shown = scalar_display g.S.ParseScalarValue.content g.S.ScalarValue.str_in g.S.ScalarValue.shown in
    TextsLeft g.W.Write.write_str_gives l.initial.f (texts_of_items shown l.item-items) l.first
    (texts_of_items shown (drop l.item-index l.item-items)) l.f

abbrev pub invariant-write_fields-loop-key : goal.invariant-write_fields-loop-key
invariant-write_fields-loop-key g l =
    let shown = scalar_display g.S.ParseScalarValue.content g.S.ScalarValue.str_in g.S.ScalarValue.shown in
    record {
      split : (done : List (String Global × Value g.row.S.Denot)) × (pairs l.object ≡ done ++ l.key-iterator);
      written : TextsLeft g.W.Write.write_str_gives l.initial.f
          (texts_of_fields shown (pairs l.object)) l.first (texts_of_fields shown l.key-iterator) l.f;
    }

abbrev pub decreases-write_value : goal.decreases-write_value
decreases-write_value g l = 2 * goal.size-write_value g l

abbrev pub decreases-write_items : goal.decreases-write_items
decreases-write_items g l = 2 * goal.size-write_items g l + 1

abbrev pub decreases-write_fields : goal.decreases-write_fields
decreases-write_fields g l = 2 * goal.size-write_fields g l + 1
