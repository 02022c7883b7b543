use Rattle.std.proofs.Common.{refl, ap, arith, ◌∙◌, ◌∷◌, [], map}
use Rattle.std.proofs.lemmas.Grind.{common_steps}
use Rattle.juniper_values.specs.Maps.{values_of}
use Rattle.juniper_values.specs.View.{view, view_items}
use Rattle.juniper_values.proofs.Maps.{map_last}
use Rattle.juniper_values.proofs.Reading.{gathered}
use Rattle.juniper_values.proofs.input_value.maps.items_alone.Goals as goal

pub loop-item-preserved : goal.loop-item-preserved
loop-item-preserved g c =
    gathered (λ xs. values_of (view_items (λ s. s) xs)) (λ x. view (λ s. s) x.item ∷ []) (λ x xs. refl)
    c.deref-item-items.result.now c.loop-item.item-index c.item-item.result c.loop-item-test.true c.item-item.is _ _ _
    c.loop-item.invariant
    (ap (map (λ x. view (λ s. s) x.now)) c.in_ok-push.ensures.items
    ∙ map_last (λ x. view (λ s. s) x.now) c.loop-item.values.items _)

pub returns-in_err-push : goal.returns-in_err-push
returns-in_err-push g c = grind (arith, common_steps)

pub returns : goal.returns
returns g c = grind (arith, common_steps)
