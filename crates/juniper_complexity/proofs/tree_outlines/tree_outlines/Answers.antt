use Rattle.std.proofs.Common.{◌≡◌, ◌+◌, ◌++◌, ◌∷◌, [], map, take, ap, ◌∙◌, arith}
use Rattle.std.proofs.lemmas.Grind.{common_steps}
use Rattle.std.proofs.lemmas.List.{map-append}
use Rattle.juniper_tree.specs.View.{view_definition}
use Rattle.juniper_outlines.proofs.Public.{take_next}
use Rattle.juniper_complexity.proofs.ResolvedOutlines.{gathered_more}
use Rattle.juniper_complexity.proofs.tree_outlines.tree_outlines.Goals as goal

pub loop-definition-preserved : goal.loop-definition-preserved
loop-definition-preserved g c =
    let l = c.loop-definition in
    let xs = c.args.document.now in
    let x = c.definition-item.result in
    let i = l.definition-index in
    let view = view_definition g.S.ParseScalarValue.content in
    let longer : map view (take (i + 1) xs) ≡ map view (take i xs) ++ view x ∷ [] =
    ap (map view) (take_next xs i x (omega arith) c.definition-item.is) ∙ map-append view (take i xs) (x ∷ []) in
    rw (longer, c.in_ok-push.ensures.items)
    (gathered_more l.outlines.items (map view (take i xs)) c.in_ok-gather_definition.field-0 (view x) l.invariant
    c.in_ok-gather_definition.ensures)

pub returns : goal.returns
returns g c = grind (arith, common_steps)
