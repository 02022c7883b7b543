use Rattle.std.proofs.Common.{◌≡◌, ◌+◌, ◌*◌, ◌++◌, List, String, Global}
use Rattle.std.specs.Vec.Iter.{into_iter_items}
use Rattle.juniper_answers.specs.Another.{IsAnother}
use Rattle.juniper_answers.specs.Copies.{CopiesItems, CopiesFields}
use Rattle.juniper_answers.specs.View.{pairs}
use Rattle.juniper_answers.specs.declared.value.Value.{Value}
use Rattle.juniper_answers.proofs.map_scalars.+map.Given as goal

abbrev pub invariant-map_items-loop-item : goal.invariant-map_items-loop-item
invariant-map_items-loop-item g l = record {
  split : l.fn.items.items ≡ l.yielded ++ into_iter_items l.item-iterator;
  made : CopiesItems (IsAnother g.S.ParseScalarValue.content g.S.ScalarValue.int_in g.S.ScalarValue.bool_in
      g.S.ScalarValue.own_string_in g.T.ParseScalarValue.content g.T.ScalarValue.of_int g.T.ScalarValue.of_bool
      g.T.ScalarValue.of_text) l.yielded l.made.items;
}

abbrev pub invariant-map_object-loop-key : goal.invariant-map_object-loop-key
invariant-map_object-loop-key g l =
    (done : List (String Global × Value g.row.S.Denot)) × (pairs l.fn.object ≡ done ++ l.key-iterator)
    × CopiesFields (IsAnother g.S.ParseScalarValue.content g.S.ScalarValue.int_in g.S.ScalarValue.bool_in
    g.S.ScalarValue.own_string_in g.T.ParseScalarValue.content g.T.ScalarValue.of_int g.T.ScalarValue.of_bool
    g.T.ScalarValue.of_text) done (pairs l.made)

abbrev pub decreases-map_value : goal.decreases-map_value
decreases-map_value g l = 2 * goal.size-map_value g l

abbrev pub decreases-map_items : goal.decreases-map_items
decreases-map_items g l = 2 * goal.size-map_items g l + 1

abbrev pub decreases-map_object : goal.decreases-map_object
decreases-map_object g l = 2 * goal.size-map_object g l + 1
