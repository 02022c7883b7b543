use Rattle.std.proofs.Common.{ℕ, ap, ◌∙◌}
use Rattle.std.specs.Str.{chars}
use Rattle.juniper_tokens.specs.Lexing.{LexerState}
use Rattle.juniper_tokens.specs.device.LexingByScan.{past_ignored}
use Rattle.juniper_tokens.proofs.lexer.Lexer.skip_ignored.Goals as goal

pub returns-clause-passes : goal.returns-clause-passes
returns-clause-passes c =
    let made : ℕ → LexerState = λ i. record {
      source = chars c.self.inside.source.now;
      index = i;
      ended = c.self.inside.ended;
    } in
    ap made c.walk_ignored-ignored.ensures.index_is ∙ ap past_ignored c.self.view_is
