use Rattle.std.proofs.Common.{◌≡◌, ◌+◌, ◌≤◌, map, vec_len, vec_capacity}
use Rattle.std.specs.Vec.Iter.{into_iter_items, into_iter_len}
use Rattle.juniper_values.specs.Make.{unlocated_items}
use Rattle.juniper_values.specs.View.{view}
use Rattle.juniper_values.proofs.Reading.{prepend}
use Rattle.juniper_values.proofs.Trees.{put_item}
use Rattle.juniper_values.proofs.input_value.make.placed_items.Given as goal

abbrev pub invariant-loop-item : goal.invariant-loop-item
invariant-loop-item g l = record {
  capacity : vec_len l.placed + into_iter_len l.item-iterator ≤ vec_capacity l.placed;
  made : prepend (put_item (λ s. s)) l.placed.items
      (unlocated_items (map (view (λ s. s)) (into_iter_items l.item-iterator)))
      ≡ unlocated_items (map (view (λ s. s)) l.fn.items.items);
}
