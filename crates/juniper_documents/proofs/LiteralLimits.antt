-- What is answered within limits for a source that is to be a literal and then the end.
use Rattle.std.proofs.Common.{◌≡◌, ◌<◌, ◌^◌, ℕ, List, [], ◌∷◌, ◌++◌, refl, sym, ap, subst, ◌∙◌, inl, inr, Result, Ok}
use Rattle.std.proofs.Common.{Err}
use Rattle.std.specs.Prelude.{Bool, Option, Some, None}
use Rattle.graphql_lexical.specs.Place.{Span}
use Rattle.graphql_lexical.specs.Cutting.{Lexeme, Cut}
use Rattle.graphql_lexical.specs.Nesting.{ended_by, IsFirstDeeper}
use Rattle.graphql_lexical.proofs.Public.{one_cut_or_break}
use Rattle.graphql_grammar.specs.Tokens.{Located}
use Rattle.graphql_grammar.specs.Tree.{Scalars, Value, TypeRef}
use Rattle.graphql_grammar.specs.Grammar.{IsLocated, IsType, IsValue}
use Rattle.juniper_tokens.specs.declared.error.LexFailure.TheVariants as lexing
use Rattle.juniper_tokens.specs.declared.error.LimitedLexFailure.{LimitedLexFailure}
use Rattle.juniper_tokens.specs.declared.error.LimitedLexFailure.TheVariants as counting
use Rattle.juniper_tokens.specs.declared.error.ParseFailure.{ParseFailure}
use Rattle.juniper_tokens.specs.declared.error.ParseFailure.TheVariants as failure
use Rattle.juniper_tokens.specs.declared.span.Span as spans
use Rattle.juniper_tokens.specs.Counting.{HasFew, HasMore, IfCounted, IfFaultWithin, IfTooMany}
use Rattle.juniper_tokens.specs.Errors.{Error, Fault, view_fault, view_lexer_error}
use Rattle.juniper_tokens.specs.Gathering.{BreaksOff}
use Rattle.juniper_tokens.specs.Lexing.{started}
use Rattle.juniper_tokens.specs.Nesting.{EndsAtNesting}
use Rattle.juniper_tokens.specs.Spans.{view_span}
use Rattle.juniper_documents.specs.declared.document.depth.DepthFailure.{DepthFailure}
use Rattle.juniper_documents.specs.declared.document.depth.DepthFailure.TheVariants as within
use Rattle.juniper_documents.specs.Literals.{HasLiteral, IsLiteralWithin, IsLiteralRefusal, lexical, FailsLiteral}
use Rattle.juniper_documents.specs.Literals.{FailsLiteralWithin, NamesTypeError, NamesValueError}
use Rattle.juniper_documents.specs.Limited.{HasFewTokens, failure_limited, tokens_limited}
use Rattle.juniper_documents.specs.Within.{failure_within}
use Rattle.juniper_documents.specs.device.Alone.{Answers, Refused}
use Rattle.juniper_documents.proofs.DepthLimits.{same_number, other_number}
use Rattle.juniper_documents.proofs.Promises.{break_from_start, lexical_reported}
use Rattle.juniper_documents.proofs.LiteralEnds.{MayEnd, one_located_type, one_value, type_last, value_last}
use Rattle.juniper_documents.proofs.StreamedLimits.{EndedOf}
use Rattle.juniper_documents.proofs.LiteralSources.{begun_literal, has_literal, literal_refusal, shallow_literal}
use Rattle.juniper_documents.proofs.LiteralSources.{short_no_literal, short_refused, unbegun_literal}

module _ {A : Type 0} (R : A → List Lexeme → Type 0) (Names : List Lexeme → Lexeme → Error → Type 0) (depth : ℕ)
    (source : List ℕ) where
  -- what a result says of the source, and of what was made of it
  abbrev pub DecidesLiteral : {X : Type 0} → (X → A → Type 0) → Option spans.Span → Result X ParseFailure → Type 0
  DecidesLiteral built deep (Ok x) = (literal : A) × built x literal × HasLiteral R source literal
      × IsLiteralWithin R depth source
  DecidesLiteral built deep (Err e) = FailsLiteralWithin R depth source Names (failure_within deep e)

  module _ (last : (front : List Lexeme) (u : Lexeme) (x : A) → R x (front ++ u ∷ []) → MayEnd u.kind)
      (one : (ts : List Lexeme) (x y : A) → R x ts → R y ts → x ≡ y) {X : Type 0} (built : X → A → Type 0)
      (ts : List Lexeme) (cut : Cut source ts) where
    shallow_decides : (result : Result X ParseFailure) → IsLiteralWithin R depth source
        → Answers R Names built result ts
        → DecidesLiteral built None result
    shallow_decides (Ok x) shallow h = (h.0, h.1, has_literal R one source ts cut h.0 h.2, shallow)
    shallow_decides (Err (failure.Refused fault)) shallow h = (
      literal_refusal R Names source ts cut
          (view_fault fault) h,
      shallow,
    )
    shallow_decides (Err failure.Memory) shallow h = tt

    module _ (before : List Lexeme) (t : Lexeme) (d : IsFirstDeeper depth ts before t) where
      deep_decides : (span : spans.Span) (result : Result X ParseFailure) → view_span span ≡ t.span
          → Answers R Names built result (ended_by before t) → DecidesLiteral built (Some span) result
      deep_decides span (Ok x) e h =
          absurd (short_no_literal R Names source ts cut depth before t d last h.0 h.2)
      deep_decides span (Err (failure.Refused fault)) e h =
          elim (short_refused R Names source ts cut depth before t d (view_fault fault) h) [
            | inl (begins, here) ↦
                rw (same_number fault.span.start.index span.end.index (here ∙ ap (λ (s : Span). s.end.index) (sym e)))
                (begun_literal R Names source ts cut depth before t d begins (view_span span) e)
            | inr (none, refused, less) ↦
                rw (other_number fault.span.start.index span.end.index
                (subst (λ (n : ℕ). fault.span.start.index < n) (ap (λ (s : Span). s.end.index) (sym e)) less)) (
                  literal_refusal R Names source ts cut (view_fault fault) refused,
                  unbegun_literal R Names source ts cut depth before t d none,
                )
          ]
      deep_decides span (Err failure.Memory) e h = tt

    pub literal_decided : (deep : Option spans.Span) (tokens : List Lexeme) (result : Result X ParseFailure)
        → EndsAtNesting depth ts deep tokens → Answers R Names built result tokens → DecidesLiteral built deep result
    literal_decided None tokens result (shallow, is) h =
        shallow_decides result (shallow_literal R Names source ts cut depth shallow)
        (subst (Answers R Names built result) is h)
    literal_decided (Some span) tokens result (before, t, d, at, is) h =
        deep_decides before t d span result at (subst (Answers R Names built result) is h)

  -- ---- limits on both

  module _ (most : ℕ) where
    pub literal_limited : (e : DepthFailure) → FailsLiteralWithin R depth source Names e → HasFewTokens most source
        → FailsLiteral R Names depth most source (failure_limited e)
    literal_limited (within.Parse (failure.Refused fault)) h few = (h.0, h.1, few)
    literal_limited (within.Parse failure.Memory) h few = tt
    literal_limited (within.TooDeep span) h few = (h, few)

    -- what a failure to read the tokens says
    pub literal_uncounted : (Y : Type 0) (failed : LimitedLexFailure)
        → IfFaultWithin {X = Y} (Err failed)
        (λ fault. BreaksOff (started source) (view_lexer_error fault.item) fault.span.start)
        → IfFaultWithin {X = Y} (Err failed) (λ fault. fault.span.end ≡ fault.span.start)
        → IfCounted {X = Y} (Err failed) (HasFew [] source most)
        → IfTooMany {X = Y} (Err failed) (λ span. HasMore [] source most (view_span span))
        → IfTooMany {X = Y} (Err failed) (λ _. most < 2 ^ 63)
        → FailsLiteral R Names depth most source (tokens_limited failed)
    literal_uncounted Y (counting.Lex (lexing.Fault fault)) breaks wide few many limit =
        let there = break_from_start (started source) source _ _ refl breaks in (
          subst (IsLiteralRefusal R Names source) (sym (lexical_reported fault wide)) (lexical there),
          record { none = λ span h. (one_cut_or_break source).never_both h.lexemes _ _ h.cut there },
          few,
        )
    literal_uncounted Y (counting.Lex lexing.Memory) breaks wide few many limit = tt
    literal_uncounted Y (counting.TooMany span) breaks wide few many limit = (many, limit)

-- ---- values and types

module _ {C : Type 0} (S : Scalars C Error) (free : Bool) {X : Type 0} (built : X → Located (Value C) → Type 0) where
  pub value_decided : (depth : ℕ) (source : List ℕ) (deep : Option spans.Span) (tokens : List Lexeme)
      (result : Result X ParseFailure) → EndedOf depth source deep tokens
      → Answers (IsLocated (IsValue S free)) (NamesValueError S free) built result tokens
      → DecidesLiteral (IsLocated (IsValue S free)) (NamesValueError S free) depth source built deep result
  value_decided depth source deep tokens result ended h =
      literal_decided (IsLocated (IsValue S free)) (NamesValueError S free) depth source (value_last S free)
      (one_value S free) built ended.0 ended.1 deep tokens result ended.2 h

module _ {X : Type 0} (built : X → Located TypeRef → Type 0) where
  pub type_decided : (depth : ℕ) (source : List ℕ) (deep : Option spans.Span) (tokens : List Lexeme)
      (result : Result X ParseFailure) → EndedOf depth source deep tokens
      → Answers (IsLocated IsType) NamesTypeError built result tokens
      → DecidesLiteral (IsLocated IsType) NamesTypeError depth source built deep result
  type_decided depth source deep tokens result ended h =
      literal_decided (IsLocated IsType) NamesTypeError depth source (λ us u x k. type_last us u x.item k.0)
      one_located_type
      built ended.0 ended.1 deep tokens result ended.2 h
