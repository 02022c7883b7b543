use Rattle.std.proofs.Common.{◌<◌, length, sym, ap, refl, arith}
use Rattle.juniper_tokens.proofs.PlainTokens.{string_found, string_begun}
use Rattle.juniper_tokens.proofs.lexer.plain.plain_string.Goals as goal

pub returns-then-bytes-last-eq34-clause-finds : goal.returns-then-bytes-last-eq34-clause-finds
returns-then-bytes-last-eq34-clause-finds c =
    let same = c.as_bytes-bytes.ensures.value in
    let some : 0 < length c.args.text.now = omega (arith, ap length same, c.if-last-bytes.false) in
    string_found c.args.text.now _ c.utf8.text same some (omega (arith, c.type_inv.text 0)) _ _ (sym c.requires) refl
    c.run_over-units.ensures.runs
    (omega (arith, c.if-units-eq0.false)) (omega (arith, c.if-last-bytes.false)) c.if-bytes-last-eq34.true

pub escaped_end-end-requires-clause-walked : goal.escaped_end-end-requires-clause-walked
escaped_end-end-requires-clause-walked c =
    let same = c.as_bytes-bytes.ensures.value in
    let some : 0 < length c.args.text.now = omega (arith, ap length same, c.if-last-bytes.false) in
    string_begun c.args.text.now _ c.utf8.text same some (omega (arith, c.type_inv.text 0)) _ _ (sym c.requires) refl
    c.run_over-units.ensures.runs c.run_over-units.ensures.within (omega (arith, c.if-units-eq0.false))
