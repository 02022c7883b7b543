use Rattle.std.proofs.Common.{◌<◌, get_or, sym, ap, ◌∙◌, arith}
use Rattle.juniper_tokens.proofs.Counts.{byte_counted, others_after, one_counted, all_counted}
use Rattle.juniper_tokens.proofs.lexer.text.count_alphanumerics.Goals as goal

pub returns-then-not-is_ascii_alphanumeric : goal.returns-then-not-is_ascii_alphanumeric
returns-then-not-is_ascii_alphanumeric c =
    let bytes = c.as_bytes-bytes.result.now in
    let b = get_or bytes c.loop-count.count 0 in
    let small : b < 256 = omega (
      arith,
      c.type_inv.text c.loop-count.count,
      ap (λ t. get_or t c.loop-count.count 0) c.as_bytes-bytes.ensures.value,
    ) in
    others_after c.args.text.now bytes c.loop-count.count c.utf8.text c.as_bytes-bytes.ensures.value
    c.loop-count.invariant c.if-count-bytes.true
    (sym (byte_counted b small) ∙ (sym c.is_ascii_alphanumeric.ensures.value ∙ c.if-not-is_ascii_alphanumeric.true))

pub loop-count-preserved : goal.loop-count-preserved
loop-count-preserved c =
    let bytes = c.as_bytes-bytes.result.now in
    let b = get_or bytes c.loop-count.count 0 in
    let small : b < 256 = omega (arith, c.type_inv.bytes c.loop-count.count) in
    one_counted c.args.text.now bytes c.loop-count.count c.utf8.text c.as_bytes-bytes.ensures.value
    c.loop-count.invariant c.if-count-bytes.true c.loop-count-test.true
    (sym (byte_counted b small) ∙ (sym c.is_ascii_alphanumeric.ensures.value ∙ c.if-not-is_ascii_alphanumeric.false))

pub returns-else-count-bytes : goal.returns-else-count-bytes
returns-else-count-bytes c =
    all_counted c.args.text.now c.as_bytes-bytes.result.now c.loop-count.count c.utf8.text
    c.as_bytes-bytes.ensures.value c.loop-count.invariant c.if-count-bytes.false
