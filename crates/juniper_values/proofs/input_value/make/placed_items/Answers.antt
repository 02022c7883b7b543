use Rattle.std.proofs.Common.{refl, ap, sym, ◌∙◌, map, arith}
use Rattle.juniper_values.specs.Make.{unlocated_items}
use Rattle.juniper_values.specs.View.{view}
use Rattle.juniper_values.proofs.Reading.{prepend, turn, nothing_left}
use Rattle.juniper_values.proofs.Trees.{put_item, view_items-prepend}
use Rattle.juniper_values.proofs.input_value.make.placed_items.Goals as goal

pub loop-item-preserved : goal.loop-item-preserved
loop-item-preserved g c =
    let s = c.in-Some.ensures.steps in
    record {
      capacity = omega (
        arith,
        s.1,
        c.push_reserved.ensures.len,
        c.push_reserved.ensures.capacity,
        c.loop-item.invariant.capacity,
      );
      made =
          turn (put_item (λ s. s)) _ _ c.unlocated.result _ _ _ c.loop-item.invariant.made c.push_reserved.ensures.items
          (ap (λ xs. unlocated_items (map (view (λ s. s)) xs)) s.0 ∙ rw c.unlocated.ensures refl);
    }

pub returns : goal.returns
returns g c =
    view_items-prepend (λ s. s) c.loop-item.placed.items
    ∙ ap (λ xs. prepend (put_item (λ s. s)) c.loop-item.placed.items (unlocated_items (map (view (λ s. s)) xs)))
    (sym (nothing_left c.loop-item.item-iterator c.in-None.ensures.steps.0))
    ∙ c.loop-item.invariant.made
