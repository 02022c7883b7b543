-- What is returned for a text within limits on nesting and on tokens.
use Rattle.std.specs.Prelude.{◌⊎◌, ◌<◌, ◌^◌, ℕ, List, [], Result, Ok, Err, IfOk}
use Rattle.graphql_lexical.specs.Place.{Span}
use Rattle.graphql_grammar.specs.Tree.{Scalars, Definition}
use Rattle.juniper_tokens.specs.declared.error.ParseError.{ParseError}
use Rattle.juniper_tokens.specs.declared.error.LimitedLexFailure.{LimitedLexFailure}
use Rattle.juniper_tokens.specs.declared.error.LimitedLexFailure.TheVariants as counting
use Rattle.juniper_tokens.specs.declared.error.ParseFailure.TheVariants as failure
use Rattle.juniper_tokens.specs.declared.span.Span as spans
use Rattle.juniper_tokens.specs.declared.span.Spanning.{Spanning}
use Rattle.juniper_tokens.specs.Counting.{HasFew, HasMore}
use Rattle.juniper_tokens.specs.Spans.{view_span}
use Rattle.juniper_tokens.specs.Errors.{Error, view_fault, failure_of}
use Rattle.juniper_documents.specs.declared.document.depth.DepthFailure.{DepthFailure}
use Rattle.juniper_documents.specs.declared.document.depth.DepthFailure.TheVariants as within
use Rattle.juniper_documents.specs.declared.document.limited.LimitFailure.{LimitFailure}
use Rattle.juniper_documents.specs.declared.document.limited.LimitFailure.TheVariants as limited
use Rattle.juniper_parser.specs.Promise.{HasTree, IsRefusal}
use Rattle.juniper_documents.specs.Within.{HasTooDeep, IsWithin, HasTreeWithin, IsRefusedWithin, IsNestedTooDeep}

-- Where a text was refused, P holds of the error and its place.
abbrev pub IfRefusedLimited : {X : Type 0} → Result X LimitFailure → (Spanning ParseError → Type 0) → Type 0
IfRefusedLimited (Ok x) P = Unit {0}
IfRefusedLimited (Err (limited.Parse (failure.Refused fault))) P = P fault
IfRefusedLimited (Err (limited.Parse failure.Memory)) P = Unit {0}
IfRefusedLimited (Err (limited.TooDeep span)) P = Unit {0}
IfRefusedLimited (Err (limited.TooMany span)) P = Unit {0}

-- Where a text is nested too deep, P holds of the span that is reported.
abbrev pub IfTooDeepLimited : {X : Type 0} → Result X LimitFailure → (spans.Span → Type 0) → Type 0
IfTooDeepLimited (Ok x) P = Unit {0}
IfTooDeepLimited (Err (limited.Parse e)) P = Unit {0}
IfTooDeepLimited (Err (limited.TooDeep span)) P = P span
IfTooDeepLimited (Err (limited.TooMany span)) P = Unit {0}

-- Where a text has too many tokens, P holds of the span that is reported.
abbrev pub IfTooManyLimited : {X : Type 0} → Result X LimitFailure → (spans.Span → Type 0) → Type 0
IfTooManyLimited (Ok x) P = Unit {0}
IfTooManyLimited (Err (limited.Parse e)) P = Unit {0}
IfTooManyLimited (Err (limited.TooDeep span)) P = Unit {0}
IfTooManyLimited (Err (limited.TooMany span)) P = P span

-- Where a text has a tree or was refused, P holds.
abbrev pub IfDecidedLimited : {X : Type 0} → Result X LimitFailure → Type 0 → Type 0
IfDecidedLimited (Ok x) P = P
IfDecidedLimited (Err (limited.Parse (failure.Refused fault))) P = P
IfDecidedLimited (Err (limited.Parse failure.Memory)) P = Unit {0}
IfDecidedLimited (Err (limited.TooDeep span)) P = Unit {0}
IfDecidedLimited (Err (limited.TooMany span)) P = Unit {0}

-- Where a text has a tree, was refused or is nested too deep, P holds.
abbrev pub IfParsed : {X : Type 0} → Result X LimitFailure → Type 0 → Type 0
IfParsed (Ok x) P = P
IfParsed (Err (limited.Parse (failure.Refused fault))) P = P
IfParsed (Err (limited.Parse failure.Memory)) P = Unit {0}
IfParsed (Err (limited.TooDeep span)) P = P
IfParsed (Err (limited.TooMany span)) P = Unit {0}

-- The text has no more than this many tokens before its end, or before its first lexical error.
abbrev pub HasFewTokens : ℕ → List ℕ → Type 0
HasFewTokens most source = HasFew [] source most

-- The text has more, and the first one too many has this span.
abbrev pub HasTooManyTokens : ℕ → List ℕ → Span → Type 0
HasTooManyTokens most source span = HasMore [] source most span

-- An error was made of a failure of which P holds.
abbrev pub FailsAs : {X F G : Type 0} → (G → F → Type 0) → Result X F → (G → Type 0) → Type 0
FailsAs from (Ok x) P = Unit {0}
FailsAs {G = G} from (Err e) P = (failure : G) × from failure e × P failure

-- a failure within a limit on nesting alone
abbrev pub failure_limited : DepthFailure → LimitFailure
failure_limited (within.Parse e) = limited.Parse e
failure_limited (within.TooDeep span) = limited.TooDeep span

-- a failure to take the tokens
abbrev pub tokens_limited : LimitedLexFailure → LimitFailure
tokens_limited (counting.Lex e) = limited.Parse (failure_of e)
tokens_limited (counting.TooMany span) = limited.TooMany span

module _ {C : Type 0} (S : Scalars C Error) (depth most : ℕ) (source : List ℕ) where
  -- Of few tokens: the text has a tree, or is refused, or has a token that is nested too deep, as within the depth alone.
  abbrev pub HasTreeLimited : Type 0
  HasTreeLimited = HasFewTokens most source × HasTreeWithin S depth source

  abbrev pub IsRefusedLimited : Type 0
  IsRefusedLimited = HasFewTokens most source × IsRefusedWithin S depth source

  abbrev pub IsTooDeepLimited : Type 0
  IsTooDeepLimited = HasFewTokens most source × IsNestedTooDeep S depth source

  -- The text has too many tokens, whatever they are.
  abbrev pub IsTooLarge : Type 0
  IsTooLarge = (span : Span) × HasTooManyTokens most source span

  -- Exactly one of these four holds of the text.
  pub record HasOneResultLimited : Type 0 where
    pub some : HasTreeLimited ⊎ (IsRefusedLimited ⊎ (IsTooDeepLimited ⊎ IsTooLarge))
    pub tree_or_refused : HasTreeLimited → IsRefusedLimited → ⊥
    pub tree_or_too_deep : HasTreeLimited → IsTooDeepLimited → ⊥
    pub tree_or_too_large : HasTreeLimited → IsTooLarge → ⊥
    pub refused_or_too_deep : IsRefusedLimited → IsTooDeepLimited → ⊥
    pub refused_or_too_large : IsRefusedLimited → IsTooLarge → ⊥
    pub too_deep_or_too_large : IsTooDeepLimited → IsTooLarge → ⊥

  -- What a failure says of the text.
  abbrev pub FailsLimited : LimitFailure → Type 0
  FailsLimited (limited.Parse (failure.Refused fault)) = IsRefusal S source (view_fault fault)
      × IsWithin S depth source × HasFewTokens most source
  FailsLimited (limited.Parse failure.Memory) = Unit {0}
  FailsLimited (limited.TooDeep span) = HasTooDeep S depth source (view_span span) × HasFewTokens most source
  FailsLimited (limited.TooMany span) = HasTooManyTokens most source (view_span span) × (most < 2 ^ 63)

  -- What is promised of a result, by outcome.
  pub record ReturnsLimited {X : Type 0} (view : X → List (Definition C)) (result : Result X LimitFailure) : Type 0 where
    pub accepted : IfOk result (λ x. HasTree S source (view x))
    pub refused : IfRefusedLimited result (λ fault. IsRefusal S source (view_fault fault))
    pub within : IfDecidedLimited result (IsWithin S depth source)
    pub too_deep : IfTooDeepLimited result (λ span. HasTooDeep S depth source (view_span span))
    pub few : IfParsed result (HasFewTokens most source)
    pub too_many : IfTooManyLimited result (λ span. HasTooManyTokens most source (view_span span))
    pub limited : IfTooManyLimited result (λ _. most < 2 ^ 63)
