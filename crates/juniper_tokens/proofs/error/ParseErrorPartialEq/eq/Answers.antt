use Rattle.std.proofs.Common.{◌∙◌, sym}
use Rattle.juniper_tokens.specs.Errors.{view_error, same_error}
use Rattle.juniper_tokens.proofs.EqualErrors.{equal-same_lexical_error}
use Rattle.juniper_tokens.proofs.error.ParseErrorPartialEq.eq.Goals as goal

pub returns-in-LexerError-LexerError : goal.returns-in-LexerError-LexerError
returns-in-LexerError-LexerError c =
    let both = c.in-LexerError-LexerError in
    c.eq.ensures ∙ equal-same_lexical_error both.a both.b
    ∙ sym (λ i. same_error (view_error (both.is-0 i)) (view_error (both.is-1 i)))
