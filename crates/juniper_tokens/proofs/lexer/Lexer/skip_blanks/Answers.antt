use Rattle.std.proofs.Common.{ℕ, ap, sym, ◌∙◌, arith}
use Rattle.std.specs.Str.{chars}
use Rattle.juniper_tokens.specs.Lexing.{LexerState}
use Rattle.juniper_tokens.specs.device.LexingByScan.{past_ignored}
use Rattle.juniper_tokens.proofs.lexer.Lexer.skip_blanks.Goals as goal

pub returns-clause-passes : goal.returns-clause-passes
returns-clause-passes c =
    let made : ℕ → LexerState = λ i. record {
      source = chars c.self.inside.source.now;
      index = i;
      ended = c.self.inside.ended;
    } in
    ap made (sym c.walk_blanks-blanks.ensures.ignored.ignored) ∙ ap past_ignored c.self.view_is

pub returns-clause-ends : goal.returns-clause-ends
returns-clause-ends c = λ never.
    let made : ℕ → LexerState = λ i. record {
      source = chars c.self.inside.source.now;
      index = i;
      ended = c.self.inside.ended;
    } in
    ap made (omega (arith, c.walk_blanks-blanks.ensures.ignored.ignored, c.walk_blanks-blanks.ensures.ends never))
    ∙ ap past_ignored c.self.view_is
