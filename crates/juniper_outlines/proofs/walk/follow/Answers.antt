use Rattle.std.proofs.Common.{get_or, refl, arith}
use Rattle.std.proofs.lemmas.Option.{slice_get-get_or}
use Rattle.juniper_outlines.specs.declared.walk.State.TheVariants as state
use Rattle.juniper_outlines.specs.Definitions.{outline_of, place_of, resolved}
use Rattle.juniper_outlines.specs.device.Walk.{step_spread, step_enter, step_cycle}
use Rattle.juniper_outlines.proofs.Elements.{read_at, outline_at}
use Rattle.juniper_outlines.proofs.walk.follow.Goals as goal

pub returns-in-Unvisited : goal.returns-in-Unvisited
returns-in-Unvisited c =
    let os = c.args.outlines.now in
    let t = c.args.target in
    let unvisited = read_at c.args.states.now t state.Unvisited (omega arith) c.in-Unvisited.is in
    let p = get_or os t c.index-outlines-target.result in
    step_enter c.args.next t c.args.complexity c.requires.next.of (outline_of (place_of os) p)
    (resolved (place_of os) c.args.spread.now) c.requires.next.next c.requires.named unvisited
    (outline_at os t p (slice_get-get_or os t c.index-outlines-target.result (omega arith))) refl

pub returns-in-Open : goal.returns-in-Open
returns-in-Open c =
    let t = c.args.target in
    let open_t = read_at c.args.states.now t (state.Open c.in-Open.field-0 c.in-Open.field-1) (omega arith)
    c.in-Open.is in
    step_cycle c.args.next t c.in-Open.field-0 c.args.complexity c.in-Open.field-1 c.requires.next.of
    (resolved (place_of c.args.outlines.now) c.args.spread.now) c.requires.next.next c.requires.named open_t

pub returns-in-Done : goal.returns-in-Done
returns-in-Done c =
    let t = c.args.target in
    let done_t = read_at c.args.states.now t (state.Done c.in-Done.inner) (omega arith) c.in-Done.is in
    rw (c.plus.ensures, c.at_level.ensures)
    (step_spread c.args.next t c.args.complexity c.in-Done.inner c.requires.next.of
    (resolved (place_of c.args.outlines.now) c.args.spread.now) c.requires.next.next c.requires.named done_t refl)
