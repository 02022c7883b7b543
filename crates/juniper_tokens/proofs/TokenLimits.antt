-- Tokens that are gathered up to a limit.
use Rattle.std.proofs.Common.{◌≡◌, ◌≤◌, ℕ, zero, suc, true, false, List, length, inl, inr, refl, sym, ap, ap₂, ◌∙◌, subst, arith}
use Rattle.std.specs.Prelude.{Some, Result, Ok, Err}
use Rattle.std.specs.Result.{IsErrAnd}
use Rattle.std.proofs.lemmas.List.{length-map}
use Rattle.graphql_lexical.specs.Characters.{Text}
use Rattle.graphql_lexical.specs.Place.{Place, Span, place}
use Rattle.graphql_lexical.specs.Kinds.{LexicalError, UnknownEscapeSequence}
use Rattle.graphql_lexical.specs.Cutting.{Lexeme, CutAfter, BreaksThere}
use Rattle.graphql_lexical.specs.Cutting as cutting
use Rattle.juniper_tokens.specs.declared.token_range.TokenRange.{TokenRange}
use Rattle.juniper_tokens.specs.declared.error.LexFailure.{LexFailure}
use Rattle.juniper_tokens.specs.declared.error.LexFailure.TheVariants as failures
use Rattle.juniper_tokens.specs.declared.error.LimitedLexFailure.{LimitedLexFailure}
use Rattle.juniper_tokens.specs.declared.error.LimitedLexFailure.TheVariants as limited
use Rattle.juniper_tokens.specs.declared.span.Span as spans
use Rattle.juniper_tokens.specs.Spans.{view_span}
use Rattle.juniper_tokens.specs.Errors.{view_lexer_error}
use Rattle.juniper_tokens.specs.Lexing.{LexerState, passed, ahead, PassesToken, MeetsError}
use Rattle.juniper_tokens.specs.Gathering.{BreaksOff}
use Rattle.juniper_tokens.specs.Counting.{HasFew, HasMore, IfFaultWithin, IfCounted}
use Rattle.juniper_tokens.specs.device.Ranges.{range_lexeme, range_lexemes, range_steps}
use Rattle.juniper_tokens.proofs.Counting.{few_here, has_few_after}
use Rattle.juniper_tokens.proofs.Gathering.{GatheredRanges, gathered_open, breaks_passed, at_index}

-- the tokens of a cut before the end are one fewer
pub cut_few : (most : ℕ) (before left : Text) (xs : List Lexeme) → CutAfter before left xs → length xs ≤ suc most
    → HasFew before left most
cut_few most before left _ (cutting.last {done = done} {after = after} {x = x} s e) l =
    few_here before left most (inl (x, done, after, s, e))
cut_few zero before left _ (cutting.token s n (cutting.last t e)) l = absurd (omega (arith, l))
cut_few zero before left _ (cutting.token s n (cutting.token t m c)) l = absurd (omega (arith, l))
cut_few (suc most) before left _ (cutting.token {done = done} {after = after} {x = x} {xs = xs} s n c) l =
    has_few_after before left x done after s n most (cut_few most done after xs c (omega (arith, l)))

-- a span that was made from places is that of the range over which the lexer went
pub span_of : (u : LexerState) (r : TokenRange) (l : LexerState) (span : spans.Span) → l ≡ u → {s : LexerState}
    → range_steps s (Some (Ok r)) u → span.start ≡ place l.source r.start.characters → span.end ≡ place l.source l.index
    → view_span span ≡ (range_lexeme u.source r).span
span_of u r l span e step start end = ap₂ (λ (p q : Place). record { start = p; end = q })
    (start ∙ ap (λ (w : LexerState). place w.source r.start.characters) e)
    (end ∙ ap (λ (w : LexerState). place w.source w.index) e ∙ ap (place u.source) step.2.to)

module _ (s : LexerState) (ranges : List TokenRange) (t u : LexerState) (gathered : GatheredRanges s ranges t) where
  abbrev Few : ℕ → Type 0
  Few most = HasFew (passed s.source s.index) (ahead s.source s.index) most

  same_source : t.source ≡ s.source
  same_source = gathered.gathered.source

  -- the lexical error where there is no token
  breaks_there : (f : LexFailure) → range_steps t (Some (Err f)) u
      → (error : LexicalError) × (at : Place) × MeetsError t error at
  breaks_there failures.Memory h = (UnknownEscapeSequence h.2.text, h.2.at, h.2.breaks)
  breaks_there (failures.Fault fault) h = (view_lexer_error fault.item, fault.span.start, h.2.breaks)

  pub few_before : (f : LexFailure) → range_steps t (Some (Err f)) u → (most : ℕ) → length ranges ≤ most → Few most
  few_before f h most few =
      let broken = breaks_there f h in
      let breaks : MeetsError (at_index s t.index) broken.0 broken.1 =
      subst (λ (source : List ℕ). BreaksThere (passed source t.index) (ahead source t.index) broken.0 broken.1)
      same_source broken.2 in
      record {
        tokens = range_lexemes s.source ranges;
        done = passed s.source t.index;
        after = ahead s.source t.index;
        leads = gathered_open s (range_lexemes s.source ranges) t gathered.gathered h.0;
        ends = inr (broken.0, broken.1, breaks);
        few = omega (arith, few, length-map ranges (range_lexeme s.source));
      }

  module _ (failure : LexFailure) (step : range_steps t (Some (Err failure)) u) {X : Type 0}
      (result : Result X LimitedLexFailure) (is : IsErrAnd result (λ x. x ≡ limited.Lex failure)) where
    is_error : (r : Result X LimitedLexFailure) → IsErrAnd r (λ x. x ≡ limited.Lex failure)
        → r ≡ Err (limited.Lex failure)
    is_error (Ok x) e = absurd e
    is_error (Err x) e = ap Err e

    broken : (f : LexFailure) → range_steps t (Some (Err f)) u
        → IfFaultWithin {X = X} (Err (limited.Lex f)) (λ fault. BreaksOff s (view_lexer_error fault.item) fault.span.start)
    broken failures.Memory h = tt
    broken (failures.Fault fault) h = breaks_passed s ranges t u {X = X} (Err (failures.Fault fault))
        (failures.Fault fault) gathered h refl

    pub breaks_within : IfFaultWithin result (λ fault. BreaksOff s (view_lexer_error fault.item) fault.span.start)
    breaks_within =
        subst (λ (r : Result X LimitedLexFailure). IfFaultWithin r
        (λ fault. BreaksOff s (view_lexer_error fault.item) fault.span.start)) (sym (is_error result is))
        (broken failure step)

    module _ (most : ℕ) (few : length ranges ≤ most) where
      counted : (f : LexFailure) → range_steps t (Some (Err f)) u → IfCounted {X = X} (Err (limited.Lex f)) (Few most)
      counted failures.Memory h = tt
      counted (failures.Fault fault) h = few_before (failures.Fault fault) h most few

      pub counted_before : IfCounted result (Few most)
      counted_before =
          subst (λ (r : Result X LimitedLexFailure). IfCounted r (Few most)) (sym (is_error result is)) (counted failure step)

  module _ (r : TokenRange) (step : range_steps t (Some (Ok r)) u) (most : ℕ) (full : length ranges ≡ most)
      (going : u.ended ≡ false) where
    pub one_too_many : (span : Span) → span ≡ (range_lexeme u.source r).span
        → HasMore (passed s.source s.index) (ahead s.source s.index) most span
    one_too_many span at = record {
      front = range_lexemes s.source ranges;
      done = passed s.source t.index;
      rest = ahead s.source t.index;
      leads = gathered_open s (range_lexemes s.source ranges) t gathered.gathered step.0;
      count = length-map ranges (range_lexeme s.source) ∙ full;
      token = range_lexeme s.source r;
      past = passed s.source u.index;
      after = ahead s.source u.index;
      stands =
          subst (λ (source : List ℕ). PassesToken (record { source = source; index = t.index; ended = s.ended }) (range_lexeme source r) u.index)
          same_source step.2.stands;
      other = λ e. let z : true ≡ false = sym (step.2.ends.1 e) ∙ going in absurd (cc);
      at = at ∙ ap (λ (source : List ℕ). (range_lexeme source r).span) (step.1 ∙ same_source);
    }
