use Rattle.std.proofs.Common.{◌≡◌, sym, subst, ◌∙◌, arith}
use Rattle.juniper_requests.proofs.Borders.{IsRest, whole_rest, rest_after, rest_bytes, at_end, at_rest}
use Rattle.juniper_requests.proofs.bytes.byte_offset.Goals as goal

pub loop-i-init : goal.loop-i-init
loop-i-init c = whole_rest c.args.source.now c.utf8.source

pub first_and_rest-requires-text-text : goal.first_and_rest-requires-text-text
first_and_rest-requires-text-text c = λ _. c.loop-i.invariant.utf8

pub loop-i-preserved : goal.loop-i-preserved
loop-i-preserved c =
    let read = c.in_ok-after.ensures in
    rest_after c.args.source.now c.loop-i.rest.now c.in_ok-after.after.now c.loop-i._i _ c.loop-i.invariant read.parts
    read.utf8

pub returns-in_err-after : goal.returns-in_err-after
returns-in_err-after c =
    c.from_residual.ensures
    ∙ sym (at_end c.args.source.now c.loop-i.rest.now c.loop-i._i c.args.index c.loop-i.invariant
    c.in_err-after.ensures.parts c.loop-i-test.true)

pub overflow_sub-result : goal.overflow_sub-result
overflow_sub-result c = omega (
  arith,
  rest_bytes c.args.source.now c.loop-i.rest.now c.loop-i._i c.utf8.source c.loop-i.invariant,
)

pub returns : goal.returns
returns c =
    let source = c.args.source.now in
    let here : c.loop-i._i ≡ c.args.index = omega (arith, c.loop-i-test.false, c.loop-i.auto._i-end) in
    sym (at_rest source c.loop-i.rest.now c.args.index c.utf8.source
    (subst (IsRest source c.loop-i.rest.now) here c.loop-i.invariant))
