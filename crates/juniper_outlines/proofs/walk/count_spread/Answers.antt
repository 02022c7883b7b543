use Rattle.std.proofs.Common.{◌≡◌, ℕ, map, get_or, slice_get, Some, refl, ap, sym, subst, ◌∙◌, arith}
use Rattle.std.proofs.lemmas.Grind.{common_steps}
use Rattle.std.proofs.lemmas.Option.{gets, slice_get-get_or}
use Rattle.juniper_outlines.specs.declared.outline.NamedSpread.{NamedSpread}
use Rattle.juniper_outlines.specs.declared.walk.State.TheVariants as state
use Rattle.juniper_outlines.specs.Definitions.{outline_of, place_of, resolved}
use Rattle.juniper_outlines.specs.Outlines.{Outline, Spread}
use Rattle.juniper_outlines.specs.device.Walk.{step_spread}
use Rattle.juniper_outlines.proofs.Elements.{read_at, outline_at, resolved_at}
use Rattle.juniper_outlines.proofs.walk.count_spread.Goals as goal

pub returns : goal.returns
returns c =
    let os = c.args.outlines.now in
    let place = place_of os in
    let ss = c.args.states.now in
    let at = c.args.at in
    let w = c.requires.waits.leads in
    let open_at = read_at ss at (state.Open c.in-Open.next c.in-Open.complexity) (omega arith) c.in-Open.is in
    let was = w.is_next.open_at in
    let same_next : c.in-Open.next ≡ w.next = cc in
    let same_complexity : c.in-Open.complexity ≡ w.complexity = cc in
    let p = get_or os at c.index-outlines-at.result in
    let here = outline_at os at p (slice_get-get_or os at c.index-outlines-at.result (omega arith)) in
    let there = w.is_next.outline in
    let same_outline : outline_of place p ≡ w.of = cc in
    let spread : slice_get (map (resolved place) p.spreads.items) w.next ≡ Some w.spread =
    subst (λ (o : Outline). slice_get o.spreads w.next ≡ Some w.spread) (sym same_outline) w.is_next.spread in
    let s = c.index.result.now in
    let around : s.fields_around ≡ w.spread.fields_around =
    ap (λ (z : NamedSpread). z.fields_around) c.index.ensures
    ∙ (ap (λ (k : ℕ). (get_or p.spreads.items k s).fields_around) same_next
    ∙ ap (λ (z : Spread). z.fields_around) (resolved_at place p.spreads.items w.next s w.spread spread)) in
    rw (c.plus.ensures, c.at_level.ensures, around, same_next, same_complexity)
    (step_spread w.next c.requires.waits.target w.complexity c.args.inner w.of w.spread w.is_next w.named
    c.requires.waits.is_done refl)

pub returns-in_default : goal.returns-in_default
returns-in_default c = grind (arith, gets)

pub overflow_add-states : goal.overflow_add-states
overflow_add-states c = grind (arith, common_steps, gets)
