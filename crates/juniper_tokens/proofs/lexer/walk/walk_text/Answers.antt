use Rattle.std.proofs.Common.{◌≡◌, ◌<◌, ◌≤◌, ◌+◌, true, length, get_or, sym, ap, subst, ◌∙◌, arith, refl}
use Rattle.graphql_lexical.specs.Place.{Place, next_line}
use Rattle.juniper_tokens.specs.Positions.{columns_on}
use Rattle.juniper_tokens.specs.ByteClasses.{inner_class}
use Rattle.juniper_tokens.specs.device.ByteRuns.{Walked}
use Rattle.juniper_tokens.specs.device.Walks.{place_machine}
use Rattle.juniper_tokens.proofs.ByteRuns.{walked_on, walked_end}
use Rattle.juniper_tokens.proofs.ByteClasses.{outer, not_inner, feed_byte, no_feed_byte}
use Rattle.graphql_lexical.specs.Place.{past_character}
use Rattle.juniper_tokens.proofs.LineWalks.{walked_first, walked_feed, at_inner, reached}
use Rattle.juniper_tokens.proofs.PlaceWalks.{no_columns, column_on, place_column, place_same}
use Rattle.juniper_tokens.proofs.lexer.walk.walk_text.Goals as goal

pub loop-i-init : goal.loop-i-init
loop-i-init c = (
  subst (λ (p : Place). Walked place_machine (tt, c.args.start) c.as_bytes-bytes.result.now
      c.run_over-first.result.bytes (tt, p))
      (sym c.columns_on-position.ensures)
      (walked_first past_character columns_on no_columns column_on c.args.start c.as_bytes-bytes.result.now c.run_over-first.result c.run_over-first.ensures.runs
      c.run_over-first.ensures.within),
  omega (arith, ap (λ (p : Place). p.index) c.columns_on-position.ensures, c.run_over-first.ensures.fewer),
)

pub loop-i-preserved-in-LineFeed : goal.loop-i-preserved-in-LineFeed
loop-i-preserved-in-LineFeed c =
    let bytes = c.as_bytes-bytes.result.now in
    let b = get_or bytes c.loop-i.i 0 in
    let small : b < 256 = omega (arith, c.type_inv.bytes c.loop-i.i) in
    let place : c.columns_on-position-in-LineFeed.result ≡ columns_on c.run_over-line.result.characters
    (next_line c.loop-i.position)
    = c.columns_on-position-in-LineFeed.ensures
    ∙ ap (columns_on c.run_over-line.result.characters) c.advance_line.ensures in (
      subst (λ (p : Place). Walked place_machine (tt, c.args.start) bytes
          (c.loop-i.i + (1 + c.run_over-line.result.bytes)) (tt, p))
          (sym place)
          (walked_feed past_character columns_on no_columns column_on c.args.start c.loop-i.position bytes _ c.loop-i.i c.run_over-line.result c.loop-i-test.true
          (feed_byte b c.byte_class.result small c.byte_class.ensures c.in-LineFeed.is) refl
          c.run_over-line.ensures.runs c.run_over-line.ensures.within c.loop-i.invariant.0),
      omega (arith, ap (λ (p : Place). p.index) place, c.run_over-line.ensures.fewer, c.loop-i.invariant.1),
    )

pub loop-i-preserved-in-Inner : goal.loop-i-preserved-in-Inner
loop-i-preserved-in-Inner c =
    let bytes = c.as_bytes-bytes.result.now in
    let b = get_or bytes c.loop-i.i 0 in
    let small : b < 256 = omega (arith, c.type_inv.bytes c.loop-i.i) in (
      walked_on place_machine (tt, c.args.start) (tt, c.loop-i.position) (tt, c.loop-i.position) bytes c.loop-i.i
          c.loop-i-test.true
          (at_inner past_character columns_on no_columns column_on c.loop-i.position b (outer b c.byte_class.result true small c.byte_class.ensures
          (sym (ap inner_class c.in-Inner.is))))
          c.loop-i.invariant.0,
      omega (arith, c.loop-i.invariant.1),
    )

pub loop-i-preserved : goal.loop-i-preserved
loop-i-preserved c =
    let bytes = c.as_bytes-bytes.result.now in
    let b = get_or bytes c.loop-i.i 0 in
    let small : b < 256 = omega (arith, c.type_inv.bytes c.loop-i.i) in (
      subst (λ (p : Place). Walked place_machine (tt, c.args.start) bytes (c.loop-i.i + 1) (tt, p))
          (sym c.advance_col.ensures)
          (walked_on place_machine (tt, c.args.start) (tt, c.loop-i.position) _ bytes c.loop-i.i c.loop-i-test.true
          (place_column c.loop-i.position b
          (not_inner b c.byte_class.result small c.byte_class.ensures c.in_default.not-Inner)
          (no_feed_byte b c.byte_class.result small c.byte_class.ensures c.in_default.not-LineFeed))
          c.loop-i.invariant.0),
      omega (arith, ap (λ (p : Place). p.index) c.advance_col.ensures, c.loop-i.invariant.1),
    )

pub returns : goal.returns
returns c =
    let bytes = c.as_bytes-bytes.result.now in
    let end : length bytes ≤ c.loop-i.i = omega (arith, c.loop-i-test.false) in
    reached past_character columns_on no_columns column_on place_same c.args.text.now bytes c.loop-i.i c.args.start c.loop-i.position c.utf8.text
    c.as_bytes-bytes.ensures.value
    (walked_end place_machine (tt, c.args.start) (tt, c.loop-i.position) bytes c.loop-i.i end c.loop-i.invariant.0)
