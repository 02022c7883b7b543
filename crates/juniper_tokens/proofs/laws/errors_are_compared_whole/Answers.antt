use Rattle.std.proofs.Common.{◌∙◌, sym}
use Rattle.juniper_tokens.specs.Errors.{view_lexer_error}
use Rattle.juniper_tokens.specs.laws.ErrorLaws.{same_lexical_error-Decides}
use Rattle.juniper_tokens.proofs.EqualErrors.{equal-same_lexical_error}
use Rattle.juniper_tokens.proofs.laws.errors_are_compared_whole.Goals as goal

pub returns-clause-lexical : goal.returns-clause-lexical
returns-clause-lexical c a b =
    let same = equal-same_lexical_error a b in
    let decides = same_lexical_error-Decides (view_lexer_error a) (view_lexer_error b) in
    ((λ e. decides.0 (sym same ∙ e)), (λ e. same ∙ decides.1 e))
