use Rattle.std.proofs.Common.{sym, ap, ◌∙◌, arith}
use Rattle.juniper_tokens.specs.declared.byte_classes.ByteClass.TheVariants.{Digit}
use Rattle.juniper_tokens.specs.device.Walks.{is_in_float}
use Rattle.juniper_tokens.proofs.PlainTokens.{some_there, digits_offset, int_found}
use Rattle.juniper_tokens.proofs.lexer.plain.plain_int.Goals as goal

pub text_from-requires : goal.text_from-requires
text_from-requires c =
    let text = c.args.text.now in
    digits_offset text _ c.utf8.text c.as_bytes.ensures.value
    (some_there text Digit (sym c.requires.digit) (λ e. absurd (cc e)))
    (omega (arith, c.type_inv.text 0)) _ c.run_over-end.ensures.runs

pub returns-clause-finds : goal.returns-clause-finds
returns-clause-finds c =
    let text = c.args.text.now in
    int_found text _ c.utf8.text c.as_bytes.ensures.value
    (some_there text Digit (sym c.requires.digit) (λ e. absurd (cc e)))
    (omega (arith, c.type_inv.text 0)) _ (sym c.requires.digit) c.requires.nonzero c.run_over-end.ensures.runs
    (ap is_in_float (sym c.text_from.ensures.characters) ∙ sym c.if-is_in_float.ensures)
