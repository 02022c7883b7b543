use Rattle.std.proofs.Common.{◌≡◌, ℕ, ◌≤◌, ◌<◌, ◌+◌, true, length, get_or, refl, sym, ap, ap₂, subst, arith}
use Rattle.juniper_tokens.specs.LineTables.{Lines}
use Rattle.juniper_tokens.specs.ByteClasses.{inner_class}
use Rattle.juniper_tokens.specs.device.ByteRuns.{Walked}
use Rattle.juniper_tokens.specs.device.Walks.{each_machine}
use Rattle.juniper_tokens.specs.device.LineSteps.{made_table, longer, past}
use Rattle.juniper_tokens.proofs.ByteRuns.{walked_on, walked_end}
use Rattle.juniper_tokens.proofs.ByteClasses.{outer, not_inner, feed_byte, no_feed_byte}
use Rattle.juniper_tokens.proofs.LineWalks.{walked_first, walked_feed, at_inner, reached}
use Rattle.juniper_tokens.proofs.Lines.{no_longer, longer_more, past_alike, past_other}
use Rattle.juniper_tokens.proofs.line_table.push_lines.Goals as goal

pub loop-i-init : goal.loop-i-init
loop-i-init c = (
  walked_first past longer no_longer longer_more (made_table c.args.starts.now.items c.args.count)
      c.as_bytes-bytes.result.now c.run_over-first.result c.run_over-first.ensures.runs c.run_over-first.ensures.within,
  omega (arith, c.run_over-first.ensures.fewer),
)

pub loop-i-preserved-in-LineFeed : goal.loop-i-preserved-in-LineFeed
loop-i-preserved-in-LineFeed c =
    let bytes = c.as_bytes-bytes.result.now in
    let start = made_table c.args.starts.now.items c.args.count in
    let b = get_or bytes c.loop-i.i 0 in
    let small : b < 256 = omega (arith, c.type_inv.bytes c.loop-i.i) in
    let table = made_table c.loop-i.starts.items c.loop-i.after in (
      subst (λ (t : Lines). Walked (each_machine past) (tt, start) bytes
          (c.loop-i.i + (1 + c.run_over-line.result.bytes)) (tt, t))
          (sym (ap₂ made_table c.in_ok-push-in-LineFeed.ensures.items
          (regrouped c.loop-i.after c.run_over-line.result.characters)))
          (walked_feed past longer no_longer longer_more start table bytes _ c.loop-i.i c.run_over-line.result
          c.loop-i-test.true
          (feed_byte b c.byte_class.result small c.byte_class.ensures c.in-LineFeed.is) refl
          c.run_over-line.ensures.runs c.run_over-line.ensures.within c.loop-i.invariant.0),
      omega (arith, c.run_over-line.ensures.fewer, c.loop-i.invariant.1),
    )
  where
    regrouped : (n k : ℕ) → n + (1 + k) ≡ (n + 1) + k
    regrouped n k = omega arith

pub loop-i-preserved-in-Inner : goal.loop-i-preserved-in-Inner
loop-i-preserved-in-Inner c =
    let bytes = c.as_bytes-bytes.result.now in
    let start = made_table c.args.starts.now.items c.args.count in
    let b = get_or bytes c.loop-i.i 0 in
    let small : b < 256 = omega (arith, c.type_inv.bytes c.loop-i.i) in
    let table = made_table c.loop-i.starts.items c.loop-i.after in (
      walked_on (each_machine past) (tt, start) (tt, table) (tt, table) bytes c.loop-i.i c.loop-i-test.true
          (at_inner past longer no_longer longer_more table b (outer b c.byte_class.result true small
          c.byte_class.ensures (sym (ap inner_class c.in-Inner.is))))
          c.loop-i.invariant.0,
      omega (arith, c.loop-i.invariant.1),
    )

pub loop-i-preserved : goal.loop-i-preserved
loop-i-preserved c =
    let bytes = c.as_bytes-bytes.result.now in
    let start = made_table c.args.starts.now.items c.args.count in
    let b = get_or bytes c.loop-i.i 0 in
    let small : b < 256 = omega (arith, c.type_inv.bytes c.loop-i.i) in
    let table = made_table c.loop-i.starts.items c.loop-i.after in (
      walked_on (each_machine past) (tt, start) (tt, table) (tt, longer 1 table) bytes c.loop-i.i c.loop-i-test.true
          (past_other table b (not_inner b c.byte_class.result small c.byte_class.ensures c.in_default.not-Inner)
          (no_feed_byte b c.byte_class.result small c.byte_class.ensures c.in_default.not-LineFeed))
          c.loop-i.invariant.0,
      omega (arith, c.loop-i.invariant.1),
    )

pub returns : goal.returns
returns c =
    let bytes = c.as_bytes-bytes.result.now in
    let start = made_table c.args.starts.now.items c.args.count in
    let end : length bytes ≤ c.loop-i.i = omega (arith, c.loop-i-test.false) in
    let table = made_table c.loop-i.starts.items c.loop-i.after in
    reached past longer no_longer longer_more past_alike c.args.text.now bytes c.loop-i.i start table
    c.utf8.text c.as_bytes-bytes.ensures.value
    (walked_end (each_machine past) (tt, start) (tt, table) bytes c.loop-i.i end c.loop-i.invariant.0)
