use Rattle.std.proofs.Common.{◌<◌, sym, ap, ◌∙◌, arith, get_or, subst}
use Rattle.juniper_tokens.specs.ByteClasses.{class_of}
use Rattle.juniper_tokens.proofs.IgnoredWalks.{white_on, feed_on, class_here, never_ends, class_at_end, none_at_end}
use Rattle.juniper_tokens.proofs.lexer.walk.walk_blanks.Goals as goal

pub loop-bytes-preserved-in-White : goal.loop-bytes-preserved-in-White
loop-bytes-preserved-in-White c =
    let here = c.loop-bytes.here in
    let small : get_or c.as_bytes-bytes.result.now here.byte 0 < 256 = omega (arith, c.type_inv.bytes here.byte) in
    white_on c.args.source.now c.as_bytes-bytes.result.now c.args.start.place.index here c.utf8.source
    c.as_bytes-bytes.ensures.value c.loop-bytes.invariant (omega (arith, c.bytes.ensures, c.loop-bytes-test.true))
    small _
    (sym c.in-White.is ∙ c.byte_class-class.ensures
    ∙ ap (λ i. class_of (get_or c.as_bytes-bytes.result.now i 0)) c.bytes-in-loop-bytes.ensures)
    c.past_column-here.ensures

pub loop-bytes-preserved : goal.loop-bytes-preserved
loop-bytes-preserved c =
    let here = c.loop-bytes.here in
    let small : get_or c.as_bytes-bytes.result.now here.byte 0 < 256 = omega (arith, c.type_inv.bytes here.byte) in
    feed_on c.args.source.now c.as_bytes-bytes.result.now c.args.start.place.index here c.utf8.source
    c.as_bytes-bytes.ensures.value c.loop-bytes.invariant (omega (arith, c.bytes.ensures, c.loop-bytes-test.true))
    small _
    (sym c.in-LineFeed.is ∙ c.byte_class-class.ensures
    ∙ ap (λ i. class_of (get_or c.as_bytes-bytes.result.now i 0)) c.bytes-in-loop-bytes.ensures)
    c.past_line_feed-here.ensures

pub returns-in_default : goal.returns-in_default
returns-in_default c =
    let here = c.loop-bytes.here in
    let small = subst (λ t. get_or t here.byte 0 < 256) (sym c.as_bytes-bytes.ensures.value)
    (omega (arith, c.type_inv.source here.byte)) in
    let class = c.byte_class-class.ensures
    ∙ ap (λ i. class_of (get_or c.as_bytes-bytes.result.now i 0)) c.bytes-in-loop-bytes.ensures in
    record {
      ignored = c.loop-bytes.invariant;
      class = class_here c.args.source.now c.as_bytes-bytes.result.now c.args.start.place.index here c.utf8.source
          c.as_bytes-bytes.ensures.value c.loop-bytes.invariant (omega (
            arith,
            c.bytes.ensures,
            c.loop-bytes-test.true,
          )) small _ class;
      ends = never_ends c.args.source.now c.as_bytes-bytes.result.now c.args.start.place.index here c.utf8.source
          c.as_bytes-bytes.ensures.value c.loop-bytes.invariant (omega (
            arith,
            c.bytes.ensures,
            c.loop-bytes-test.true,
          )) small _ class;
    }

pub returns-clause-class : goal.returns-clause-class
returns-clause-class c =
    class_at_end c.args.source.now c.as_bytes-bytes.result.now c.args.start.place.index c.loop-bytes.here c.utf8.source
    c.as_bytes-bytes.ensures.value c.loop-bytes.invariant (omega (arith, c.bytes.ensures, c.loop-bytes-test.false))

pub returns-clause-ends : goal.returns-clause-ends
returns-clause-ends c = λ never.
    none_at_end c.args.source.now c.as_bytes-bytes.result.now c.args.start.place.index c.loop-bytes.here c.utf8.source
    c.as_bytes-bytes.ensures.value c.loop-bytes.invariant (omega (arith, c.bytes.ensures, c.loop-bytes-test.false))
