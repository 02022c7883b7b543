-- What is answered for a text within limits on nesting and on tokens.
use Rattle.std.proofs.Common.{◌≡◌, ◌<◌, ◌^◌, ℕ, ◌⊎◌, List, [], inl, inr, sym, ap, subst, Result, Ok, Err}
use Rattle.std.specs.Prelude.{IfOk}
use Rattle.std.specs.Result.{IsErrAnd}
use Rattle.graphql_grammar.specs.Tree.{Scalars, Definition}
use Rattle.juniper_tokens.specs.declared.error.LexFailure.{LexFailure}
use Rattle.juniper_tokens.specs.declared.error.LexFailure.TheVariants as lexing
use Rattle.juniper_tokens.specs.declared.error.LimitedLexFailure.TheVariants as counting
use Rattle.juniper_tokens.specs.declared.error.ParseFailure.TheVariants as failure
use Rattle.juniper_tokens.specs.Errors.{Error, view_lexer_error, failure_of}
use Rattle.juniper_tokens.specs.Lexing.{LexerState, started, passed, ahead}
use Rattle.juniper_tokens.specs.Gathering.{BreaksOff}
use Rattle.juniper_tokens.specs.declared.error.LimitedLexFailure.{LimitedLexFailure}
use Rattle.juniper_tokens.specs.declared.span.Span as spans
use Rattle.juniper_tokens.specs.Spans.{view_span}
use Rattle.juniper_tokens.specs.Counting.{HasFew, HasMore, IfCounted, IfFaultWithin, IfTooMany}
use Rattle.juniper_tokens.proofs.Public.{few_or_more, few_not_more}
use Rattle.juniper_documents.specs.declared.document.depth.DepthFailure.{DepthFailure}
use Rattle.juniper_documents.specs.declared.document.depth.DepthFailure.TheVariants as within
use Rattle.juniper_documents.specs.declared.document.limited.LimitFailure.{LimitFailure}
use Rattle.juniper_documents.specs.declared.document.limited.LimitFailure.TheVariants as limited
use Rattle.juniper_parser.specs.Promise.{HasTree}
use Rattle.juniper_documents.specs.Within.{IsWithin, ReturnsWithin}
use Rattle.juniper_documents.specs.Limited.{HasFewTokens, HasOneResultLimited, HasTreeLimited}
use Rattle.juniper_documents.specs.Limited.{IsRefusedLimited, IsTooDeepLimited}
use Rattle.juniper_documents.specs.Limited.{IsTooLarge, IfParsed, FailsAs, FailsLimited, ReturnsLimited, failure_limited, tokens_limited}
use Rattle.juniper_documents.proofs.DepthLimits.{lexical_within, one_answer}

module _ {C : Type 0} (S : Scalars C Error) (depth most : ℕ) (source : List ℕ) where
  abbrev Few : LexerState → Type 0
  Few state = HasFew (passed state.source state.index) (ahead state.source state.index) most

  pub from_start : (state : LexerState) → state ≡ started source → Few state → HasFewTokens most source
  from_start state is = subst Few is

  module _ {X : Type 0} (view : X → List (Definition C)) where
    err_so : (e : DepthFailure) → ReturnsWithin S depth source view (Err e)
        → IfParsed {X = X} (Err (failure_limited e)) (HasFewTokens most source)
        → ReturnsLimited S depth most source view (Err (failure_limited e))
    err_so (within.Parse (failure.Refused fault)) p few = record {
      accepted = tt;
      refused = p.refused;
      within = p.within;
      too_deep = tt;
      few = few;
      too_many = tt;
      limited = tt;
    }
    err_so (within.Parse failure.Memory) p few =
        record { accepted = tt; refused = tt; within = tt; too_deep = tt; few = tt; too_many = tt; limited = tt }
    err_so (within.TooDeep span) p few = record {
      accepted = tt;
      refused = tt;
      within = tt;
      too_deep = p.too_deep;
      few = few;
      too_many = tt;
      limited = tt;
    }

    is_error : (r : Result X LimitFailure) (e : LimitFailure) → IsErrAnd r (λ x. x ≡ e) → r ≡ Err e
    is_error (Ok x) e is = absurd is
    is_error (Err x) e is = ap Err is

    lex_so : (Y : Type 0) (failed : LexFailure) (state : LexerState) → state ≡ started source
        → IfFaultWithin {X = Y} (Err (counting.Lex failed)) (λ fault. BreaksOff state (view_lexer_error fault.item) fault.span.start)
        → IfFaultWithin {X = Y} (Err (counting.Lex failed)) (λ fault. fault.span.end ≡ fault.span.start)
        → IfCounted {X = Y} (Err (counting.Lex failed)) (Few state)
        → ReturnsLimited S depth most source view (Err (limited.Parse (failure_of failed)))
    lex_so Y (lexing.Fault fault) state is breaks wide few =
        err_so (within.Parse (failure_of (lexing.Fault fault)))
        (lexical_within S depth source view state (lexing.Fault fault) is breaks wide) (from_start state is few)
    lex_so Y lexing.Memory state is breaks wide few =
        err_so (within.Parse (failure_of lexing.Memory)) (lexical_within S depth source view state lexing.Memory is tt tt) tt

    many_so : (span : spans.Span) (state : LexerState) → state ≡ started source
        → HasMore (passed state.source state.index) (ahead state.source state.index) most (view_span span)
        → most < 2 ^ 63 → ReturnsLimited S depth most source view (Err (limited.TooMany span))
    many_so span state is more limit = record {
      accepted = tt;
      refused = tt;
      within = tt;
      too_deep = tt;
      few = tt;
      too_many = subst (λ (s : LexerState). HasMore (passed s.source s.index) (ahead s.source s.index) most (view_span span)) is more;
      limited = limit;
    }

    tokens_so : (Y : Type 0) (failed : LimitedLexFailure) (state : LexerState) → state ≡ started source
        → IfFaultWithin {X = Y} (Err failed) (λ fault. BreaksOff state (view_lexer_error fault.item) fault.span.start)
        → IfFaultWithin {X = Y} (Err failed) (λ fault. fault.span.end ≡ fault.span.start)
        → IfCounted {X = Y} (Err failed) (Few state)
        → IfTooMany {X = Y} (Err failed) (λ span. HasMore (passed state.source state.index) (ahead state.source state.index) most (view_span span))
        → IfTooMany {X = Y} (Err failed) (λ _. most < 2 ^ 63)
        → ReturnsLimited S depth most source view (Err (tokens_limited failed))
    tokens_so Y (counting.Lex failed) state is breaks wide few many limit = lex_so Y failed state is breaks wide few
    tokens_so Y (counting.TooMany span) state is breaks wide few many limit = many_so span state is many limit

    -- a failure to take the tokens, passed on
    pub tokens_failed : (Y : Type 0) (failed : LimitedLexFailure) (r : Result X LimitFailure)
        → IsErrAnd r (λ x. x ≡ tokens_limited failed) → (state : LexerState) → state ≡ started source
        → IfFaultWithin {X = Y} (Err failed) (λ fault. BreaksOff state (view_lexer_error fault.item) fault.span.start)
        → IfFaultWithin {X = Y} (Err failed) (λ fault. fault.span.end ≡ fault.span.start)
        → IfCounted {X = Y} (Err failed) (Few state)
        → IfTooMany {X = Y} (Err failed) (λ span. HasMore (passed state.source state.index) (ahead state.source state.index) most (view_span span))
        → IfTooMany {X = Y} (Err failed) (λ _. most < 2 ^ 63)
        → ReturnsLimited S depth most source view r
    tokens_failed Y failed r is state from breaks wide few many limit =
        subst (ReturnsLimited S depth most source view) (sym (is_error r (tokens_limited failed) is))
        (tokens_so Y failed state from breaks wide few many limit)

    -- what a failure says
    fails_limited : (e : LimitFailure) → ReturnsLimited S depth most source view (Err e)
        → FailsLimited S depth most source e
    fails_limited (limited.Parse (failure.Refused fault)) p = (p.refused, p.within, p.few)
    fails_limited (limited.Parse failure.Memory) p = tt
    fails_limited (limited.TooDeep span) p = (p.too_deep, p.few)
    fails_limited (limited.TooMany span) p = (p.too_many, p.limited)

    -- what is promised by outcome, of what a failure says
    pub err_limited : (e : LimitFailure) → FailsLimited S depth most source e → ReturnsLimited S depth most source view (Err e)
    err_limited (limited.Parse (failure.Refused fault)) p = record {
      accepted = tt;
      refused = p.0;
      within = p.1;
      too_deep = tt;
      few = p.2;
      too_many = tt;
      limited = tt;
    }
    err_limited (limited.Parse failure.Memory) p =
        record { accepted = tt; refused = tt; within = tt; too_deep = tt; few = tt; too_many = tt; limited = tt }
    err_limited (limited.TooDeep span) p = record {
      accepted = tt;
      refused = tt;
      within = tt;
      too_deep = p.0;
      few = p.1;
      too_many = tt;
      limited = tt;
    }
    err_limited (limited.TooMany span) p = record {
      accepted = tt;
      refused = tt;
      within = tt;
      too_deep = tt;
      few = tt;
      too_many = p.0;
      limited = p.1;
    }

    -- and of what holds where there is none
    pub limited_returns : (result : Result X LimitFailure) → IfOk result (λ x. HasTree S source (view x))
        → IfOk result (λ _. IsWithin S depth source) → IfOk result (λ _. HasFewTokens most source)
        → FailsAs (λ (a b : LimitFailure). b ≡ a) result (FailsLimited S depth most source)
        → ReturnsLimited S depth most source view result
    limited_returns (Ok x) tree shallow few failed = record {
      accepted = tree;
      refused = tt;
      within = shallow;
      too_deep = tt;
      few = few;
      too_many = tt;
      limited = tt;
    }
    limited_returns (Err e) tree shallow few failed =
        err_limited e (subst (FailsLimited S depth most source) (sym failed.1) failed.2)

  -- what a failure to take the tokens says
  pub tokens_fail : (Y : Type 0) (failed : LimitedLexFailure) (state : LexerState) → state ≡ started source
      → IfFaultWithin {X = Y} (Err failed) (λ fault. BreaksOff state (view_lexer_error fault.item) fault.span.start)
      → IfFaultWithin {X = Y} (Err failed) (λ fault. fault.span.end ≡ fault.span.start)
      → IfCounted {X = Y} (Err failed) (Few state)
      → IfTooMany {X = Y} (Err failed) (λ span. HasMore (passed state.source state.index) (ahead state.source state.index) most (view_span span))
      → IfTooMany {X = Y} (Err failed) (λ _. most < 2 ^ 63)
      → FailsLimited S depth most source (tokens_limited failed)
  tokens_fail Y failed state is breaks wide few many limit =
      let none : Unit {0} → List (Definition C) = λ x. [] in
      fails_limited none (tokens_limited failed) (tokens_so none Y failed state is breaks wide few many limit)

  -- ---- a text has one answer

  abbrev SomeAnswer : Type 0
  SomeAnswer = HasTreeLimited S depth most source
      ⊎ (IsRefusedLimited S depth most source ⊎ (IsTooDeepLimited S depth most source ⊎ IsTooLarge S depth most source))

  some_answer : SomeAnswer
  some_answer = elim (few_or_more source most) [
    | inr more ↦ inr (inr (inr more))
    | inl few ↦ elim (one_answer S depth source).some [
      | inl tree ↦ inl (few, tree)
      | inr other ↦ elim other [
        | inl refused ↦ inr (inl (few, refused))
        | inr deep ↦ inr (inr (inl (few, deep)))
      ]
    ]
  ]

  pub one_answer_limited : HasOneResultLimited S depth most source
  one_answer_limited =
      let one = one_answer S depth source in record {
        some = some_answer;
        tree_or_refused = λ tree refused. one.tree_or_refused tree.1 refused.1;
        tree_or_too_deep = λ tree deep. one.tree_or_too_deep tree.1 deep.1;
        tree_or_too_large = λ tree more. few_not_more [] source most more.0 tree.0 more.1;
        refused_or_too_deep = λ refused deep. one.refused_or_too_deep refused.1 deep.1;
        refused_or_too_large = λ refused more. few_not_more [] source most more.0 refused.0 more.1;
        too_deep_or_too_large = λ deep more. few_not_more [] source most more.0 deep.0 more.1;
      }
