use Rattle.std.proofs.Common.{refl, ap, sym, ◌∙◌, arith, length}
use Rattle.juniper_values.proofs.Maps.{placed}
use Rattle.juniper_values.proofs.Reading.{prepend, turn}
use Rattle.juniper_values.proofs.Trees.{put_field, view_fields-prepend}
use Rattle.juniper_values.proofs.input_value.make.placed_fields.Goals as goal

pub loop-key-init : goal.loop-key-init
loop-key-init g c =
    let all = c.into_iter-key-iterator.ensures.into_iter_gives.0 in
    record {
      capacity = omega (arith, ap length all, ap length c.requires.empty, c.args.empty.ok.0, c.requires.fits);
      made = ap (λ ys. prepend (put_field (λ s. s)) ys (placed c.into_iter-key-iterator.result)) c.requires.empty
          ∙ ap placed all;
    }

pub loop-key-preserved : goal.loop-key-preserved
loop-key-preserved g c =
    let s = c.in-Some.ensures.steps in
    record {
      capacity = omega (
        arith,
        ap length s,
        c.push_reserved.ensures.len,
        c.push_reserved.ensures.capacity,
        c.loop-key.invariant.capacity,
      );
      made =
          turn (put_field (λ s. s)) _ _ (c.unlocated.result, c.unlocated-in-loop-key.result) _ _ _
          c.loop-key.invariant.made c.push_reserved.ensures.items
          (ap placed s ∙ rw (c.unlocated.ensures, c.unlocated-in-loop-key.ensures) refl);
    }

pub returns : goal.returns
returns g c =
    view_fields-prepend (λ s. s) c.loop-key.placed.items
    ∙ ap (λ es. prepend (put_field (λ s. s)) c.loop-key.placed.items (placed es)) (sym c.in-None.ensures.steps.0)
    ∙ c.loop-key.invariant.made
