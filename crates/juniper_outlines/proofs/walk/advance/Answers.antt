use Rattle.std.proofs.Common.{◌≡◌, Some, refl, sym, ◌∙◌, arith}
use Rattle.std.proofs.lemmas.List.{length-map}
use Rattle.std.proofs.lemmas.Option.{gets, slice_get_read}
use Rattle.std.specs.Str.{chars}
use Rattle.juniper_outlines.specs.declared.walk.State.TheVariants as state
use Rattle.juniper_outlines.specs.Definitions.{is_named, outline_of, place_of, resolved}
use Rattle.juniper_outlines.specs.device.Walk.{step_done, step_unknown}
use Rattle.juniper_outlines.proofs.Places.{position_below}
use Rattle.juniper_outlines.proofs.Elements.{read_at, outline_at, is_next}
use Rattle.juniper_outlines.proofs.walk.advance.Goals as goal

pub returns-then-next-len : goal.returns-then-next-len
returns-then-next-len c =
    let os = c.args.outlines.now in
    let o = c.index-outlines-at.result in
    let eo = slice_get_read os _ c.args.at o refl (omega arith) c.index-outlines-at.is in
    let ea = read_at c.args.states.now c.args.at (state.Open c.in-Open.next c.in-Open.complexity) (omega arith)
    c.in-Open.is in
    let many = length-map o.spreads.items (resolved (place_of os)) in
    step_done c.in-Open.next c.in-Open.complexity (outline_of (place_of os) o) (outline_at os c.args.at o eo) ea
    (omega (arith, many)) refl

pub returns-in-None : goal.returns-in-None
returns-in-None c =
    let os = c.args.outlines.now in
    let o = c.index-outlines-at.result in
    let next = is_next os c.args.states.now c.args.at c.in-Open.next c.in-Open.complexity o c.index-spread.result.now
    (omega arith) (omega arith) (omega arith) c.index-outlines-at.is c.in-Open.is c.index-spread.ensures in
    step_unknown c.in-Open.next c.in-Open.complexity (outline_of (place_of os) o)
    (resolved (place_of os) c.index-spread.result.now) next
    (sym c.find_named.ensures ∙ c.in-None.is)

pub follow-requires-clause-places : goal.follow-requires-clause-places
follow-requires-clause-places c =
    let os = c.args.outlines.now in
    let name = chars c.index-spread.result.now.name.now in
    let named : place_of os name ≡ Some c.in-Some.target =
    sym c.find_named.ensures ∙ c.in-Some.is in
    let below = position_below (is_named name) 0 os c.in-Some.target named in
    (omega arith, omega arith, omega (arith, below))

pub follow-requires-clause-next : goal.follow-requires-clause-next
follow-requires-clause-next c =
    let os = c.args.outlines.now in
    let o = c.index-outlines-at.result in
    record {
      of = outline_of (place_of os) o;
      next = is_next os c.args.states.now c.args.at c.in-Open.next c.in-Open.complexity o c.index-spread.result.now
          (omega arith) (omega arith) (omega arith) c.index-outlines-at.is c.in-Open.is c.index-spread.ensures;
    }

pub follow-requires-clause-named : goal.follow-requires-clause-named
follow-requires-clause-named c = sym c.find_named.ensures ∙ c.in-Some.is

pub returns-in_default : goal.returns-in_default
returns-in_default c = grind (arith, gets)
