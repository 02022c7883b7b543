use Rattle.std.proofs.Common.{sym, arith}
use Rattle.juniper_tokens.specs.declared.byte_classes.ByteClass.TheVariants.{Dot}
use Rattle.juniper_tokens.proofs.PlainTokens.{some_there, dots_found}
use Rattle.juniper_tokens.proofs.lexer.plain.plain_dots.Goals as goal

pub returns-clause-finds : goal.returns-clause-finds
returns-clause-finds c =
    let text = c.args.text.now in
    dots_found text _ c.utf8.text c.as_bytes-bytes.ensures.value
    (some_there text Dot (sym c.requires) (λ e. absurd (cc e)))
    (omega (arith, c.type_inv.text 0)) (sym c.requires)
    (omega (arith, c.if-bytes-lt3.false)) c.if-bytes-ne46.false c.if-bytes-ne46-2.false
