use Rattle.std.proofs.Common.{◌≡◌, ◌≤◌, ◌+◌, false, length, get_or, sym, ap, ◌∙◌, arith}
use Rattle.juniper_tokens.specs.device.ByteRuns.{is_inner}
use Rattle.juniper_tokens.specs.device.Walks.{count_machine}
use Rattle.juniper_tokens.proofs.ByteRuns.{walked_on, walked_stop, walked_end}
use Rattle.juniper_tokens.proofs.ByteClasses.{outer}
use Rattle.juniper_tokens.proofs.PlaceWalks.{count_on, count_stops, offset_reached}
use Rattle.juniper_tokens.proofs.lexer.text.offset_after.Goals as goal

pub returns-then-characters-count : goal.returns-then-characters-count
returns-then-characters-count c =
    let bytes = c.as_bytes-bytes.result.now in
    let b = get_or bytes c.loop-i.i 0 in
    let begins : is_inner b ≡ false = outer b c.byte_class.result false
    (omega (arith, c.type_inv.text c.loop-i.i, ap (λ t. get_or t c.loop-i.i 0) c.as_bytes-bytes.ensures.value))
    c.byte_class.ensures (sym c.if-is_inner.false ∙ c.is_inner.ensures) in
    offset_reached c.args.text.now bytes c.args.count c.loop-i.i c.loop-i.characters c.utf8.text
    c.as_bytes-bytes.ensures.value
    (walked_stop (count_machine c.args.count) 0 c.loop-i.characters bytes c.loop-i.i c.loop-i-test.true
    (count_stops c.args.count c.loop-i.characters b begins c.if-characters-count.true) c.loop-i.invariant.0)

pub loop-i-preserved : goal.loop-i-preserved
loop-i-preserved c =
    let bytes = c.as_bytes-bytes.result.now in
    let b = get_or bytes c.loop-i.i 0 in
    let begins : is_inner b ≡ false = outer b c.byte_class.result false (omega (arith, c.type_inv.bytes c.loop-i.i))
    c.byte_class.ensures (sym c.if-is_inner.false ∙ c.is_inner.ensures) in (
      walked_on (count_machine c.args.count) 0 c.loop-i.characters (c.loop-i.characters + 1) bytes c.loop-i.i
          c.loop-i-test.true (count_on c.args.count c.loop-i.characters b begins c.if-characters-count.false)
          c.loop-i.invariant.0,
      omega (arith, c.loop-i.invariant.1),
    )

pub returns : goal.returns
returns c =
    let bytes = c.as_bytes-bytes.result.now in
    let end : length bytes ≤ c.loop-i.i = omega (arith, c.loop-i-test.false) in
    offset_reached c.args.text.now bytes c.args.count c.loop-i.i c.loop-i.characters c.utf8.text
    c.as_bytes-bytes.ensures.value
    (walked_end (count_machine c.args.count) 0 c.loop-i.characters bytes c.loop-i.i end c.loop-i.invariant.0)
