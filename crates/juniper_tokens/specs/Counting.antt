-- How many tokens a source has, and what is returned within a limit on them.
use Rattle.std.specs.Prelude.{◌≡◌, ◌≢◌, ◌≤◌, ◌⊎◌, ℕ, List, length, Result, Ok, Err}
use Rattle.graphql_lexical.specs.Characters.{Text}
use Rattle.graphql_lexical.specs.Cutting.{Lexeme, Stands, Leads, BreaksThere}
use Rattle.graphql_lexical.specs.Kinds.{LexicalError}
use Rattle.graphql_lexical.specs.Place.{Place, Span}
use Rattle.graphql_lexical.specs.declared.kind.Kind.TheVariants.{EndOfFile}
use Rattle.juniper_tokens.specs.declared.error.LexerError.{LexerError}
use Rattle.juniper_tokens.specs.declared.error.LexFailure.TheVariants as failure
use Rattle.juniper_tokens.specs.declared.error.LimitedLexFailure.{LimitedLexFailure}
use Rattle.juniper_tokens.specs.declared.error.LimitedLexFailure.TheVariants as limited
use Rattle.juniper_tokens.specs.declared.span.Span as spans
use Rattle.juniper_tokens.specs.declared.span.Spanning.{Spanning}

-- After ignored tokens the text that is left after `before` ends, or a rest begins there with a lexical error.
abbrev pub EndsAfter : Text → Text → Type 0
EndsAfter before left =
    ((token : Lexeme) × (done after : Text) × Stands before left token done after × (token.kind ≡ EndOfFile))
    ⊎ ((error : LexicalError) × (at : Place) × BreaksThere before left error at)

-- What is left after `before` has no more than this many tokens before the end, or before the first lexical error.
pub record HasFew (before left : Text) (most : ℕ) : Type 0 where
  pub tokens : List Lexeme
  pub done : Text
  pub after : Text
  pub leads : Leads before left tokens done after
  pub ends : EndsAfter done after
  pub few : length tokens ≤ most

-- What is left after `before` begins with this many tokens, none of them the end, and after them comes one more, which
-- has this span.
pub record HasMore (before left : Text) (most : ℕ) (span : Span) : Type 0 where
  pub front : List Lexeme
  pub done : Text
  pub rest : Text
  pub leads : Leads before left front done rest
  pub count : length front ≡ most
  pub token : Lexeme
  pub past : Text
  pub after : Text
  pub stands : Stands done rest token past after
  pub other : token.kind ≢ EndOfFile
  pub at : span ≡ token.span

-- ---- what is returned within a limit

-- P holds of the lexical error, if there is one.
abbrev pub IfFaultWithin : {X : Type 0} → Result X LimitedLexFailure → (Spanning LexerError → Type 0) → Type 0
IfFaultWithin (Ok x) P = Unit {0}
IfFaultWithin (Err (limited.Lex (failure.Fault fault))) P = P fault
IfFaultWithin (Err (limited.Lex failure.Memory)) P = Unit {0}
IfFaultWithin (Err (limited.TooMany span)) P = Unit {0}

-- P holds of the span of the first token that is one too many, if there is one.
abbrev pub IfTooMany : {X : Type 0} → Result X LimitedLexFailure → (spans.Span → Type 0) → Type 0
IfTooMany (Ok x) P = Unit {0}
IfTooMany (Err (limited.Lex e)) P = Unit {0}
IfTooMany (Err (limited.TooMany span)) P = P span

-- P holds where all tokens before the end or before the first lexical error were taken.
abbrev pub IfCounted : {X : Type 0} → Result X LimitedLexFailure → Type 0 → Type 0
IfCounted (Ok x) P = P
IfCounted (Err (limited.Lex (failure.Fault fault))) P = P
IfCounted (Err (limited.Lex failure.Memory)) P = Unit {0}
IfCounted (Err (limited.TooMany span)) P = Unit {0}

-- P holds where memory ran out or a token is one too many, and Q elsewhere.
abbrev pub IfStopped : {X : Type 0} → Result X LimitedLexFailure → Type 0 → Type 0 → Type 0
IfStopped (Ok x) P Q = Q
IfStopped (Err (limited.Lex (failure.Fault fault))) P Q = Q
IfStopped (Err (limited.Lex failure.Memory)) P Q = P
IfStopped (Err (limited.TooMany span)) P Q = P
