use Rattle.std.proofs.Common.{◌∙◌, subst}
use Rattle.juniper_tokens.specs.Lexing.{LexerState}
use Rattle.juniper_tokens.specs.device.Ranges.{TakesItem, TakesRange}
use Rattle.juniper_tokens.proofs.lexer.Lexer.next_of_any_class.Goals as goal

pub returns-in-Some-clause-takes : goal.returns-in-Some-clause-takes
returns-in-Some-clause-takes c =
    subst (λ (l : LexerState). TakesRange l c.in-Some.range c.take_plain.new.self) c.skip_ignored-class.ensures.passes
    c.in-Some.ensures.takes

pub returns-in-None-clause-takes : goal.returns-in-None-clause-takes
returns-in-None-clause-takes c =
    subst (λ (l : LexerState). TakesItem l c.scan_out_of_line.result c.scan_out_of_line.new.self)
    (c.in-None.ensures.takes ∙ c.skip_ignored-class.ensures.passes) c.scan_out_of_line.ensures.takes
