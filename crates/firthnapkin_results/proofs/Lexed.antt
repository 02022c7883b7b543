-- What a lexer's `next` returns.
use Rattle.std.proofs.Common.{◌≡◌, refl, subst, Bool, true, false, Result, Ok, Err}
use Rattle.graphql_lexical.specs.declared.kind.Kind.TheVariants.{EndOfFile}
use Rattle.juniper_tokens.specs.Errors.{view_lexer_error}
use Rattle.juniper_tokens.specs.Lexing.{LexerState, GivesItem, GivesToken, MeetsError}
use Rattle.juniper_tokens.specs.Tokens.{token_kind}
use Rattle.juniper_tokens.specs.declared.error.LexFailure.{LexFailure}
use Rattle.juniper_tokens.specs.declared.error.LexFailure.TheVariants.{Fault}
use Rattle.juniper_tokens.specs.declared.error.LexerError.{LexerError}
use Rattle.juniper_tokens.specs.declared.span.Spanning.{Spanning}
use Rattle.juniper_tokens.specs.declared.token.Token.{Token}

not_true : (b : Bool) → (b ≡ true → ⊥) → b ≡ false
not_true true h = absurd (h refl)
not_true false h = refl

module _ (s t : LexerState) (item : Result (Spanning Token) LexFailure) (given : GivesItem s item t) where
  pub given_token : (token : Spanning Token) → item ≡ Ok token → GivesToken s token t
  given_token token is = subst (λ z. GivesItem s z t) is given

  pub given_error : (error : Spanning LexerError) (failure : LexFailure) → item ≡ Err failure → failure ≡ Fault error
      → MeetsError s (view_lexer_error error.item) error.span.start
  given_error error failure is are =
      let at_error = subst (λ f. GivesItem s (Err f) t) are (subst (λ z. GivesItem s z t) is given) in at_error.breaks

-- it goes on after a token that isn't the end
pub goes_on : (s t : LexerState) (token : Spanning Token) → GivesToken s token t
    → (token_kind token.item ≡ EndOfFile → ⊥) → t.ended ≡ false
goes_on s t token given no_end = not_true t.ended (λ e. no_end (given.ends.0 e))
