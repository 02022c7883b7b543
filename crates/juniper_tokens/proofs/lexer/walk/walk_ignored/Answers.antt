use Rattle.std.proofs.Common.{◌≡◌, ◌+◌, ◌-◌, ◌<◌, sym, ap, ◌∙◌, arith, get_or, length, take, drop, subst}
use Rattle.std.specs.Str.{chars}
use Rattle.juniper_tokens.specs.Positions.{columns_on}
use Rattle.juniper_tokens.specs.declared.lexer.text.Offset.{Offset}
use Rattle.juniper_tokens.specs.device.BytePlaces.{BytePlace}
use Rattle.juniper_tokens.specs.declared.lexer.run.Run.TheVariants as run
use Rattle.juniper_tokens.specs.device.LexingByScan.{begins_with_mark}
use Rattle.juniper_tokens.specs.device.Walks.{RunsTo}
use Rattle.juniper_tokens.specs.ByteClasses.{class_of}
use Rattle.juniper_tokens.proofs.IgnoredWalks.{white_on, feed_on, comment_on, mark_on, lead_ends, other_ends, all_read, all_dropped}
use Rattle.juniper_tokens.proofs.lexer.walk.walk_ignored.Goals as goal

pub loop-bytes-preserved-in-White : goal.loop-bytes-preserved-in-White
loop-bytes-preserved-in-White c =
    let here = c.loop-bytes.here in
    let small : get_or c.as_bytes-bytes.result.now here.byte 0 < 256 = omega (arith, c.type_inv.bytes here.byte) in
    white_on c.args.source.now c.as_bytes-bytes.result.now c.args.start.place.index here c.utf8.source
    c.as_bytes-bytes.ensures.value c.loop-bytes.invariant (omega (arith, c.bytes.ensures, c.loop-bytes-test.true))
    small _
    (sym c.in-White.is ∙ c.byte_class-class.ensures
    ∙ ap (λ i. class_of (get_or c.as_bytes-bytes.result.now i 0)) c.bytes-in-loop-bytes.ensures)
    c.past_column-here.ensures

pub loop-bytes-preserved-in-LineFeed : goal.loop-bytes-preserved-in-LineFeed
loop-bytes-preserved-in-LineFeed c =
    let here = c.loop-bytes.here in
    let small : get_or c.as_bytes-bytes.result.now here.byte 0 < 256 = omega (arith, c.type_inv.bytes here.byte) in
    feed_on c.args.source.now c.as_bytes-bytes.result.now c.args.start.place.index here c.utf8.source
    c.as_bytes-bytes.ensures.value c.loop-bytes.invariant (omega (arith, c.bytes.ensures, c.loop-bytes-test.true))
    small _
    (sym c.in-LineFeed.is ∙ c.byte_class-class.ensures
    ∙ ap (λ i. class_of (get_or c.as_bytes-bytes.result.now i 0)) c.bytes-in-loop-bytes.ensures)
    c.past_line_feed-here.ensures

pub loop-bytes-preserved-in-Hash : goal.loop-bytes-preserved-in-Hash
loop-bytes-preserved-in-Hash c =
    let here = c.loop-bytes.here in
    let bytes = c.as_bytes-bytes.result.now in
    let small : get_or bytes here.byte 0 < 256 = omega (arith, c.type_inv.bytes here.byte) in
    let from : c.bytes-in-Hash.result + 1 ≡ here.byte + 1 = ap (λ i. i + 1) c.bytes-in-Hash.ensures in
    let tail : take (length bytes - (c.bytes-in-Hash.result + 1)) (drop (c.bytes-in-Hash.result + 1) bytes)
    ≡ drop (here.byte + 1) bytes =
    all_dropped bytes (c.bytes-in-Hash.result + 1) ∙ ap (λ i. drop i bytes) from in
    comment_on c.args.source.now bytes c.args.start.place.index here c.utf8.source
    c.as_bytes-bytes.ensures.value c.loop-bytes.invariant (omega (arith, c.bytes.ensures, c.loop-bytes-test.true))
    small _
    c.over_comment-comment.result
    (sym c.in-Hash.is ∙ c.byte_class-class.ensures
    ∙ ap (λ i. class_of (get_or c.as_bytes-bytes.result.now i 0)) c.bytes-in-loop-bytes.ensures)
    (subst (λ t. RunsTo run.Comment t c.over_comment-comment.result) tail c.over_comment-comment.ensures.runs)
    (c.past-here.ensures
    ∙ ap (λ (p : BytePlace). record {
      byte = p.byte + c.over_comment-comment.result.bytes;
      place = columns_on c.over_comment-comment.result.characters p.place;
    }) c.past_column.ensures)

pub returns-then-not-is_mark_at : goal.returns-then-not-is_mark_at
returns-then-not-is_mark_at c =
    let here = c.loop-bytes.here in
    let small = subst (λ t. get_or t here.byte 0 < 256) (sym c.as_bytes-bytes.ensures.value)
    (omega (arith, c.type_inv.source here.byte)) in
    lead_ends c.args.source.now c.as_bytes-bytes.result.now c.args.start.place.index here c.utf8.source
    c.as_bytes-bytes.ensures.value c.loop-bytes.invariant (omega (arith, c.bytes.ensures, c.loop-bytes-test.true))
    small _
    (c.byte_class-class.ensures
    ∙ ap (λ i. class_of (get_or c.as_bytes-bytes.result.now i 0)) c.bytes-in-loop-bytes.ensures) c.in-Lead.is
    (ap (λ (o : Offset). begins_with_mark (drop o.characters (chars c.args.source.now))) (sym c.offset.ensures)
    ∙ sym c.is_mark_at.ensures ∙ c.if-not-is_mark_at.true)

pub loop-bytes-preserved : goal.loop-bytes-preserved
loop-bytes-preserved c =
    let here = c.loop-bytes.here in
    let small = subst (λ t. get_or t here.byte 0 < 256) (sym c.as_bytes-bytes.ensures.value)
    (omega (arith, c.type_inv.source here.byte)) in
    mark_on c.args.source.now c.as_bytes-bytes.result.now c.args.start.place.index here c.utf8.source
    c.as_bytes-bytes.ensures.value c.loop-bytes.invariant (omega (arith, c.bytes.ensures, c.loop-bytes-test.true))
    small _
    (ap (λ (o : Offset). begins_with_mark (drop o.characters (chars c.args.source.now))) (sym c.offset.ensures)
    ∙ sym c.is_mark_at.ensures ∙ c.if-not-is_mark_at.false) c.past-here-in-Lead.ensures

pub returns-in_default : goal.returns-in_default
returns-in_default c =
    let here = c.loop-bytes.here in
    let small = subst (λ t. get_or t here.byte 0 < 256) (sym c.as_bytes-bytes.ensures.value)
    (omega (arith, c.type_inv.source here.byte)) in
    other_ends c.args.source.now c.as_bytes-bytes.result.now c.args.start.place.index here c.utf8.source
    c.as_bytes-bytes.ensures.value c.loop-bytes.invariant (omega (arith, c.bytes.ensures, c.loop-bytes-test.true))
    small _
    (c.byte_class-class.ensures
    ∙ ap (λ i. class_of (get_or c.as_bytes-bytes.result.now i 0)) c.bytes-in-loop-bytes.ensures)
    c.in_default.not-White c.in_default.not-LineFeed
    c.in_default.not-Hash c.in_default.not-Lead

pub returns : goal.returns
returns c =
    all_read c.args.source.now c.as_bytes-bytes.result.now c.args.start.place.index c.loop-bytes.here c.utf8.source
    c.as_bytes-bytes.ensures.value c.loop-bytes.invariant (omega (arith, c.bytes.ensures, c.loop-bytes-test.false))
