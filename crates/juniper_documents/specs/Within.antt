-- What is returned for a text within a limit on nesting.
use Rattle.std.specs.Prelude.{◌≡◌, ◌⊎◌, ℕ, List, Option, Some, None, Result, Ok, Err, IfOk, ◌==◌, if◌then◌else◌}
use Rattle.graphql_lexical.specs.Place.{Span}
use Rattle.graphql_lexical.specs.Cutting.{Lexeme, Cut}
use Rattle.graphql_grammar.specs.Tree.{Scalars, Definition}
use Rattle.graphql_grammar.specs.Depth.{IsTooDeep}
use Rattle.juniper_tokens.specs.declared.error.ParseError.{ParseError}
use Rattle.juniper_tokens.specs.declared.error.ParseFailure.{ParseFailure}
use Rattle.juniper_tokens.specs.declared.error.ParseFailure.TheVariants as failure
use Rattle.juniper_tokens.specs.declared.span.Span as spans
use Rattle.juniper_tokens.specs.declared.span.Spanning.{Spanning}
use Rattle.juniper_tokens.specs.Spans.{view_span}
use Rattle.juniper_tokens.specs.Errors.{Error, Fault, view_fault}
use Rattle.juniper_documents.specs.declared.document.depth.DepthFailure.{DepthFailure}
use Rattle.juniper_documents.specs.declared.document.depth.DepthFailure.TheVariants as limited
use Rattle.juniper_parser.specs.Promise.{HasTree, IsRefusal}

-- Where a text was refused, P holds of the error and its place.
abbrev pub IfRefusedWithin : {X : Type 0} → Result X DepthFailure → (Spanning ParseError → Type 0) → Type 0
IfRefusedWithin (Ok x) P = Unit {0}
IfRefusedWithin (Err (limited.Parse (failure.Refused fault))) P = P fault
IfRefusedWithin (Err (limited.Parse failure.Memory)) P = Unit {0}
IfRefusedWithin (Err (limited.TooDeep span)) P = Unit {0}

-- Where a text is nested too deep, P holds of the span that is reported.
abbrev pub IfTooDeep : {X : Type 0} → Result X DepthFailure → (spans.Span → Type 0) → Type 0
IfTooDeep (Ok x) P = Unit {0}
IfTooDeep (Err (limited.Parse e)) P = Unit {0}
IfTooDeep (Err (limited.TooDeep span)) P = P span

-- Where a text has a tree or was refused, P holds.
abbrev pub IfDecided : {X : Type 0} → Result X DepthFailure → Type 0 → Type 0
IfDecided (Ok x) P = P
IfDecided (Err (limited.Parse (failure.Refused fault))) P = P
IfDecided (Err (limited.Parse failure.Memory)) P = Unit {0}
IfDecided (Err (limited.TooDeep span)) P = Unit {0}

module _ {C : Type 0} (S : Scalars C Error) (depth : ℕ) (source : List ℕ) where
  -- The text can be cut into tokens, and the first one whose nesting exceeds depth has this span and begins, with those
  -- before it, a document.
  pub record HasTooDeep (span : Span) : Type 0 where
    pub lexemes : List Lexeme
    pub cut : Cut source lexemes
    pub before : List Lexeme
    pub token : Lexeme
    pub deep : IsTooDeep S depth lexemes before token
    pub at : span ≡ token.span

  -- The text has no such token.
  pub record IsWithin : Type 0 where
    pub none : (span : Span) → HasTooDeep span → ⊥

  -- The text has a tree, and no token that is nested too deep.
  abbrev pub HasTreeWithin : Type 0
  HasTreeWithin = IsWithin × ((tree : List (Definition C)) × HasTree S source tree)

  -- The text is refused, and has no token that is nested too deep.
  abbrev pub IsRefusedWithin : Type 0
  IsRefusedWithin = IsWithin × ((fault : Fault) × IsRefusal S source fault)

  -- The text has a token that is nested too deep.
  abbrev pub IsNestedTooDeep : Type 0
  IsNestedTooDeep = (span : Span) × HasTooDeep span

  -- Exactly one of these three holds of the text.
  pub record HasOneResult : Type 0 where
    pub some : HasTreeWithin ⊎ (IsRefusedWithin ⊎ IsNestedTooDeep)
    pub tree_or_refused : HasTreeWithin → IsRefusedWithin → ⊥
    pub tree_or_too_deep : HasTreeWithin → IsNestedTooDeep → ⊥
    pub refused_or_too_deep : IsRefusedWithin → IsNestedTooDeep → ⊥

  -- What a failure says of the text.
  abbrev pub FailsWithin : DepthFailure → Type 0
  FailsWithin (limited.Parse (failure.Refused fault)) = IsRefusal S source (view_fault fault) × IsWithin
  FailsWithin (limited.Parse failure.Memory) = Unit {0}
  FailsWithin (limited.TooDeep span) = HasTooDeep (view_span span)

  -- What is promised of a result, by outcome.
  pub record ReturnsWithin {X : Type 0} (view : X → List (Definition C)) (result : Result X DepthFailure) : Type 0 where
    pub accepted : IfOk result (λ x. HasTree S source (view x))
    pub refused : IfRefusedWithin result (λ fault. IsRefusal S source (view_fault fault))
    pub within : IfDecided result IsWithin
    pub too_deep : IfTooDeep result (λ span. HasTooDeep (view_span span))

-- A fault of tokens that were ended after a deep one, as it is reported: where that one ends stands the end.
abbrev pub failure_within : Option spans.Span → ParseFailure → DepthFailure
failure_within None e = limited.Parse e
failure_within (Some span) (failure.Refused fault) = if fault.span.start.index == span.end.index
    then limited.TooDeep span else limited.Parse (failure.Refused fault)
failure_within (Some span) failure.Memory = limited.Parse failure.Memory

abbrev pub result_within : {X : Type 0} → Option spans.Span → Result X ParseFailure → Result X DepthFailure
result_within deep (Ok x) = Ok x
result_within deep (Err e) = Err (failure_within deep e)
