use Rattle.std.proofs.Common.{arith, ◌∙◌, ap, drop}
use Rattle.juniper_tokens.proofs.QuotedTexts.{string_back, unquoted_text, first_quotes}
use Rattle.juniper_tokens.proofs.lexer.text.unquoted.Goals as goal

pub overflow_sub-end : goal.overflow_sub-end
overflow_sub-end c = let h = string_back _ _ _ _ c.requires in omega (arith, h.bytes, c.requires.offset)

pub overflow_sub-end-2 : goal.overflow_sub-end-2
overflow_sub-end-2 c = let h = string_back _ _ _ _ c.requires in omega (arith, h.within)

pub text_before-units-requires : goal.text_before-units-requires
text_before-units-requires c = let h = string_back _ _ _ _ c.requires in omega (arith, h.bytes, c.requires.offset)

pub text_from-requires : goal.text_from-requires
text_from-requires c = first_quotes _ _ _ _ _ c.requires c.text_before-units.ensures

pub returns : goal.returns
returns c = unquoted_text _ _ _ _ _ c.requires (c.text_from.ensures.characters
    ∙ ap (drop c.args.width) c.text_before-units.ensures)
