use Rattle.std.proofs.Common.{◌+◌, arith, refl}
use Rattle.juniper_tokens.proofs.Public.{chars_within}
use Rattle.juniper_requests.proofs.Borders.{rest_after, rest_bytes, one_line_more}
use Rattle.juniper_requests.proofs.bytes.ByteTable.new.Goals as goal

pub overflow_sub-here : goal.overflow_sub-here
overflow_sub-here c =
    let source = c.args.source.now in
    let next = rest_after source c.loop-c.rest.now c.in-Some.after.now c.loop-c.here.characters c.in-Some.c
    c.loop-c.invariant.0 c.in-Some.ensures.parts c.in-Some.ensures.utf8 in
    omega (arith, rest_bytes source c.in-Some.after.now (c.loop-c.here.characters + 1) c.utf8.source next)

pub overflow_add-here : goal.overflow_add-here
overflow_add-here c =
    let source = c.args.source.now in
    let next = rest_after source c.loop-c.rest.now c.in-Some.after.now c.loop-c.here.characters c.in-Some.c
    c.loop-c.invariant.0 c.in-Some.ensures.parts c.in-Some.ensures.utf8 in
    omega (arith, next.within, chars_within source c.utf8.source)

pub loop-c-preserved-in-Continue-branch-2 : goal.loop-c-preserved-in-Continue-branch-2
loop-c-preserved-in-Continue-branch-2 c =
    let source = c.args.source.now in
    let next = rest_after source c.loop-c.rest.now c.in-Some.after.now c.loop-c.here.characters c.in-Some.c
    c.loop-c.invariant.0 c.in-Some.ensures.parts c.in-Some.ensures.utf8 in
    let more = one_line_more source c.in-Some.after.now c.loop-c.lines.items c.push-then-c-eq10.new.self.items _
    c.utf8.source next refl c.in_ok-push-2.ensures.items (c.loop-c.invariant.1, c.loop-c.invariant.2) in
    (next, more.0, more.1)

pub loop-c-preserved : goal.loop-c-preserved
loop-c-preserved c = (
  rest_after c.args.source.now c.loop-c.rest.now c.in-Some.after.now c.loop-c.here.characters c.in-Some.c
      c.loop-c.invariant.0 c.in-Some.ensures.parts c.in-Some.ensures.utf8,
  c.loop-c.invariant.1,
  c.loop-c.invariant.2,
)
