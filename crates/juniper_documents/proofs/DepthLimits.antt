-- What is answered for tokens that were ended after a deep one is answered for their text.
use Rattle.std.proofs.Common.{◌≡◌, ℕ, suc, ◌<◌, ◌≤◌, ◌⊎◌, true, false, List, [], ◌∷◌, ◌++◌, length, take, inl, inr}
use Rattle.std.proofs.Common.{refl, sym, ap, subst, ◌∙◌, arith, append_assoc, append-nil, Result, Ok, Err, Option, Some}
use Rattle.std.proofs.Common.{None, length-append, zero-le}
use Rattle.std.specs.Prelude.{◌==◌, pos, ◌≤ℤ◌}
use Rattle.std.proofs.Math.Nat.{eq-or-lt_of_le}
use Rattle.std.proofs.lemmas.Int.{by_lt_z}
use Rattle.std.proofs.lemmas.List.Sums.{count_by-le-length}
use Rattle.std.specs.List.{AllByRecursion}
use Rattle.graphql_lexical.specs.Place.{Place, Span}
use Rattle.graphql_lexical.specs.Kinds.{LexicalError}
use Rattle.graphql_lexical.specs.Cutting.{Lexeme, Cut, Breaks, EndsOnce}
use Rattle.graphql_lexical.specs.device.Indexed.{CutFrom, nesting_at, IsFirstDeeperAt}
use Rattle.graphql_lexical.proofs.Public.{one_cut_or_break, one_deep, crossed, IsWide, tokens_wide, tokens_in_order}
use Rattle.graphql_lexical.proofs.Public.{after_deeper, before_is, by_places, cut_front, deep_count, fronts_shallow, leads_size}
use Rattle.graphql_lexical.specs.Nesting.{ended_by, is_opening}
use Rattle.graphql_grammar.specs.Tree.{Scalars, Definition}
use Rattle.graphql_grammar.specs.Tokens.{IsSpelled}
use Rattle.graphql_grammar.specs.Faults.{DocumentRefusedAt}
use Rattle.graphql_grammar.specs.device.Faults.{Fault, as_error}
use Rattle.graphql_grammar.specs.Depth.{IsTooDeep}
use Rattle.graphql_grammar.specs.device.AlikeFaults.{BeginsDocument, IsTooDeepAt}
use Rattle.graphql_grammar.proofs.Public.{after_too_deep, too_deep_after, same_parts, document_error, document_fault}
use Rattle.graphql_grammar.proofs.Public.{document_or_fault, cut_spelled, cut_ends, short_spelled, short_ends}
use Rattle.graphql_grammar.proofs.Public.{TellsDepth, t_goes_on, front_is, short_no_document, short_tells, middle_of}
use Rattle.juniper_tokens.specs.declared.error.ParseError.{ParseError}
use Rattle.juniper_tokens.specs.declared.error.ParseFailure.{ParseFailure}
use Rattle.juniper_tokens.specs.declared.error.ParseFailure.TheVariants as failure
use Rattle.juniper_tokens.specs.declared.error.LexFailure.{LexFailure}
use Rattle.juniper_tokens.specs.declared.error.LexFailure.TheVariants as lexing
use Rattle.juniper_tokens.specs.declared.span.Spanning.{Spanning}
use Rattle.juniper_tokens.specs.declared.span.Span as spans
use Rattle.juniper_tokens.specs.Spans.{view_span}
use Rattle.juniper_tokens.specs.Errors.{Error, UnexpectedEndOfFile, view_fault, view_lexer_error, failure_of}
use Rattle.juniper_tokens.specs.Lexing.{LexerState, started}
use Rattle.juniper_tokens.specs.Gathering.{IfFault, BreaksOff}
use Rattle.juniper_tokens.specs.Nesting.{EndsAtNesting}
use Rattle.juniper_tokens.specs.device.Nested.{IsShallowAt}
use Rattle.juniper_documents.specs.declared.document.depth.DepthFailure.{DepthFailure}
use Rattle.juniper_documents.specs.declared.document.depth.DepthFailure.TheVariants as limited
use Rattle.juniper_parser.specs.Promise.{HasTree, ReturnsAs, lexical_fault, unexpected}
use Rattle.juniper_documents.specs.laws.RefusalClauses.{IsRefusedAt, IsRefusalByClauses}
use Rattle.juniper_documents.specs.Within.{HasTooDeep, IsWithin, ReturnsWithin, HasTreeWithin}
use Rattle.juniper_documents.specs.Within.{IsRefusedWithin, IsNestedTooDeep}
use Rattle.juniper_documents.specs.Within.{HasOneResult, FailsWithin, result_within}
use Rattle.graphql_grammar.specs.device.Productions.{document}
use Rattle.juniper_parser.specs.device.Steps.{cursor}
use Rattle.juniper_documents.proofs.Promises.{document_is, refused_is, refusal_at, accepts, refuses}
use Rattle.juniper_documents.proofs.Promises.{lexical, break_from_start}
use Rattle.juniper_documents.proofs.Promises.{lexical_reported}
use Rattle.juniper_documents.proofs.Refusals.{by_clauses}
use Rattle.juniper_documents.proofs.Sources.{either_refused, never_both_refused, refusal_of}

pub same_number : (a b : ℕ) → a ≡ b → (a == b) ≡ true
same_number a b e = grind arith

pub other_number : (a b : ℕ) → a < b → (a == b) ≡ false
other_number a b l = grind arith

-- Tokens are nested no deeper than a number, or one of them is the first that is.
module _ (depth : ℕ) (ts : List Lexeme) where
  abbrev ShallowBefore : ℕ → Type 0
  ShallowBefore n = (j : ℕ) → j < n → nesting_at ts j ≤ℤ pos depth

  abbrev ShallowOrDeeper : Type 0
  ShallowOrDeeper = IsShallowAt depth ts ⊎ ((i : ℕ) × (t : Lexeme) × IsFirstDeeperAt depth ts i t)

  one_more : (n : ℕ) → ShallowBefore n → nesting_at ts n ≤ℤ pos depth → ShallowBefore (suc n)
  one_more n before here j l = elim (eq-or-lt_of_le (let h : j ≤ n = omega (arith, l) in h)) [
    | inl same ↦ subst (λ (k : ℕ). nesting_at ts k ≤ℤ pos depth) (sym same) here
    | inr less ↦ before j less
  ]

  shallow_or_deeper_from : (us vs : List Lexeme) → ts ≡ us ++ vs → ShallowBefore (length us) → ShallowOrDeeper
  shallow_or_deeper_from us [] e before =
      inl (subst (λ (xs : List Lexeme). ShallowBefore (length xs)) (sym (e ∙ append-nil us)) before)
  shallow_or_deeper_from us (t ∷ vs) e before = by_lt_z (pos depth) (nesting_at ts (length us))
      (λ deeper. inr (
        length us,
        t,
        record { before = us; after = vs; whole = e; number = refl; deeper = deeper; first = before },
      ))
      (λ here. shallow_or_deeper_from (us ++ t ∷ []) vs (e ∙ sym (append_assoc us (t ∷ []) vs))
      (subst ShallowBefore (sym (length-append us (t ∷ []) ∙ omega arith)) (one_more (length us) before here)))

  pub shallow_or_deeper : ShallowOrDeeper
  shallow_or_deeper = shallow_or_deeper_from [] ts refl (λ j l. absurd (omega (arith, l)))

module _ {C : Type 0} (S : Scalars C Error) (depth : ℕ) (source : List ℕ) where
  -- ---- whether a token of the text is too deep

  module _ (ts : List Lexeme) (cut : Cut source ts) where
    deep_there : (span : Span) (h : HasTooDeep S depth source span) → IsTooDeepAt S depth ts (length h.before) h.token
    deep_there span h =
        let same = (one_cut_or_break source).one_cut h.lexemes ts h.cut cut in
        after_too_deep S depth ts h.before h.token
        (subst (λ (xs : List Lexeme). IsTooDeep S depth xs h.before h.token) same h.deep)

    none_there : IsShallowAt depth ts → (i : ℕ) (t : Lexeme) → IsFirstDeeperAt depth ts i t → ⊥
    none_there shallow i t d =
        let size = length-append d.before (t ∷ d.after) in
        let inside : i < length ts = omega (arith, ap length d.whole, size, d.number) in
        crossed (nesting_at ts i) depth (shallow i inside) d.deeper

    shallow_within : IsShallowAt depth ts → IsWithin S depth source
    shallow_within shallow = record { none = λ span h. none_there shallow (length h.before) h.token (deep_there span h).deeper }

    module _ (i : ℕ) (t : Lexeme) (d : IsFirstDeeperAt depth ts i t) where
      begun_there : (span : Span) → HasTooDeep S depth source span → BeginsDocument S (take (suc i) ts)
      begun_there span h =
          let deep = deep_there span h in
          let number = one_deep depth ts (length h.before) i h.token t deep.deeper d in
          subst (λ (k : ℕ). BeginsDocument S (take (suc k) ts)) number deep.begins

      unbegun_within : (BeginsDocument S (take (suc i) ts) → ⊥) → IsWithin S depth source
      unbegun_within none = record { none = λ span h. none (begun_there span h) }

      begun_too_deep : BeginsDocument S (take (suc i) ts) → (span : Span) → span ≡ t.span
          → HasTooDeep S depth source span
      begun_too_deep begins span e = record {
        lexemes = ts;
        cut = cut;
        before = d.before;
        token = t;
        deep = too_deep_after S depth ts i t (record { deeper = d; begins = begins });
        at = e;
      }

  module _ {X : Type 0} (view : X → List (Definition C)) where
    -- ---- what is promised, outcome by outcome

    abbrev pub Promised : Result X DepthFailure → Type 0
    Promised = ReturnsWithin S depth source view

    tree_within : (x : X) → HasTree S source (view x) → IsWithin S depth source → Promised (Ok x)
    tree_within x h w = record { accepted = h; refused = tt; within = w; too_deep = tt }

    refusal_within : (fault : Spanning ParseError) → IsRefusalByClauses S source (view_fault fault) → IsWithin S depth source
        → Promised (Err (limited.Parse (failure.Refused fault)))
    refusal_within fault h w = record {
      accepted = tt;
      refused = by_clauses S source (view_fault fault) h;
      within = w;
      too_deep = tt;
    }

    memory_within : Promised (Err (limited.Parse failure.Memory))
    memory_within = record { accepted = tt; refused = tt; within = tt; too_deep = tt }

    deep_within : (span : spans.Span) → HasTooDeep S depth source (view_span span)
        → Promised (Err (limited.TooDeep span))
    deep_within span h = record { accepted = tt; refused = tt; within = tt; too_deep = h }

    -- what a failure says
    pub fails_within : (e : DepthFailure) → Promised (Err e) → FailsWithin S depth source e
    fails_within (limited.Parse (failure.Refused fault)) p = (p.refused, p.within)
    fails_within (limited.Parse failure.Memory) p = tt
    fails_within (limited.TooDeep span) p = p.too_deep

    -- ---- what is answered for the tokens of the text, or for those up to a deep one

    module _ (ts : List Lexeme) (cut : Cut source ts) where
      shallow_answer : (result : Result X ParseFailure) → IsShallowAt depth ts
          → ReturnsAs view result (cursor S document ts)
          → Promised (result_within None result)
      shallow_answer (Ok x) s a = tree_within x (accepts S source ts cut view (Ok x) a) (shallow_within ts cut s)
      shallow_answer (Err (failure.Refused fault)) s a =
          let refused = refuses S source ts cut {X = X} view (Err (failure.Refused fault)) a in
          refusal_within fault refused (shallow_within ts cut s)
      shallow_answer (Err failure.Memory) s a = memory_within

      module _ (i : ℕ) (t : Lexeme) (d : IsFirstDeeperAt depth ts i t) where
        deep_fault : (span : spans.Span) (fault : Spanning ParseError) → view_span span ≡ t.span
            → (h : IsRefusedAt S (ended_by d.before t) (view_fault fault)) (e : Fault Error)
            → (view_fault fault).error ≡ as_error UnexpectedEndOfFile unexpected e
            → TellsDepth S ts i t h.before h.token e
            → Promised (result_within (Some span) (Err (failure.Refused fault)))
        deep_fault span fault e h x is (inl (end, begins)) =
            let at_end = h.span ∙ ap (λ (x : Lexeme). x.span) end in
            let here : fault.span.start.index ≡ span.end.index = ap (λ (p : Span). p.start.index) at_end
            ∙ ap (λ (p : Span). p.end.index) (sym e) in
            rw (same_number fault.span.start.index span.end.index here)
            (deep_within span (begun_too_deep ts cut i t d begins (view_span span) e))
        deep_fault span fault e h x is (inr (inside, none, refused)) =
            let wide = middle_of IsWide d.before d.after t
            (subst (AllByRecursion IsWide) d.whole (tokens_wide source ts cut)) (t_goes_on S depth ts i t d) in
            let no_later = middle_of (λ (x : Lexeme). x.span.start.index ≤ t.span.start.index) h.before inside.0 h.token
            (subst (AllByRecursion (λ (x : Lexeme). x.span.start.index ≤ t.span.start.index))
            (front_is S depth ts i t d (cut_spelled source ts cut) (cut_ends source ts cut) ∙ inside.1)
            (tokens_in_order source t d.after d.before (subst (Cut source) d.whole cut))) in
            let before : fault.span.start.index < span.end.index = omega (
              arith,
              wide,
              no_later,
              ap (λ (p : Span). p.start.index) h.span,
              ap (λ (p : Span). p.end.index) e,
            ) in
            let at : IsRefusedAt S ts (view_fault fault) = record {
              before = h.before;
              token = h.token;
              refused =
                  subst (DocumentRefusedAt UnexpectedEndOfFile unexpected S ts h.before h.token) (sym is)
                  (document_error UnexpectedEndOfFile unexpected S ts h.before h.token x refused);
              span = h.span;
            } in
            rw (other_number fault.span.start.index span.end.index before)
            (refusal_within fault (refusal_at S source ts cut (view_fault fault) at) (unbegun_within ts cut i t d none))

        spelled : AllByRecursion IsSpelled (ended_by d.before t)
        spelled = short_spelled S depth ts i t d (cut_spelled source ts cut) (cut_ends source ts cut)

        ends : EndsOnce (ended_by d.before t)
        ends = short_ends S depth ts i t d (cut_spelled source ts cut) (cut_ends source ts cut)

        deep_answer : (span : spans.Span) (result : Result X ParseFailure) → view_span span ≡ t.span
            → ReturnsAs view result (cursor S document (ended_by d.before t))
            → Promised (result_within (Some span) result)
        deep_answer span (Ok x) e a =
            let document = document_is S (ended_by d.before t) spelled ends (view x) a.0 a.1 in
            absurd (short_no_document S depth ts i t d (view x) document)
        deep_answer span (Err (failure.Refused fault)) e a =
            let h = refused_is S (ended_by d.before t) spelled ends (view_fault fault) a.0 a.1 in
            let tells = short_tells S depth ts i t d (cut_spelled source ts cut) (cut_ends source ts cut) in
            let f = document_fault UnexpectedEndOfFile unexpected S (ended_by d.before t) h.before h.token
            (view_fault fault).error h.refused in
            deep_fault span fault e h f.0 f.2 (tells h.before h.token f.0 f.1)
        deep_answer span (Err failure.Memory) e a = memory_within

      pub answers_within : (deep : Option spans.Span) (left : List Lexeme) (result : Result X ParseFailure)
          → EndsAtNesting depth ts deep left → ReturnsAs view result (cursor S document left)
          → Promised (result_within deep result)
      answers_within None left result e a =
          shallow_answer result (fronts_shallow depth ts e.0) (subst (λ (xs : List Lexeme). ReturnsAs view result (cursor S document xs)) e.1 a)
      answers_within (Some span) left result (before, t, d, at, is) a =
          deep_answer (length before) t (after_deeper depth ts before t d) span result at
          (subst (λ (xs : List Lexeme). ReturnsAs view result (cursor S document xs))
          (is ∙ ap (λ (us : List Lexeme). ended_by us t) (sym (before_is depth ts before t d))) a)

    -- ---- a lexical fault

    pub lexical_within : (state : LexerState) (failed : LexFailure) → state ≡ started source
        → IfFault {X = List Lexeme} (Err failed)
        (λ fault. BreaksOff state (view_lexer_error fault.item) fault.span.start)
        → IfFault {X = List Lexeme} (Err failed) (λ fault. fault.span.end ≡ fault.span.start)
        → Promised (Err (limited.Parse (failure_of failed)))
    lexical_within state (lexing.Fault fault) e b z =
        let breaks = break_from_start state source _ _ e b in
        let uncut : IsWithin S depth source = record {
          none = λ span h. (one_cut_or_break source).never_both h.lexemes _ _ h.cut breaks;
        } in
        refusal_within _ (lexical S source _ _ _ breaks (lexical_reported fault z)) uncut
    lexical_within state lexing.Memory e b z = memory_within

  -- ---- a text with such a token is long

  pub deep_is_long : (span : Span) → HasTooDeep S depth source span → depth ≤ length source
  deep_is_long span h =
      let d = (deep_there h.lexemes h.cut span h).deeper in
      let there = subst (CutFrom source 0) d.whole (by_places source h.lexemes h.cut) in
      let front = cut_front source d.before h.token d.after 0 there in
      let size = leads_size source d.before 0 front.0 zero-le front.1 in
      let few = count_by-le-length (λ (x : Lexeme). is_opening x.kind) (d.before ++ h.token ∷ []) in
      omega (
        arith,
        deep_count depth h.lexemes (length h.before) h.token d,
        few,
        length-append d.before (h.token ∷ []),
        size.0,
        size.1,
      )

  -- ---- a text has one such token at most

  pub one_too_deep : (a b : Span) → HasTooDeep S depth source a → HasTooDeep S depth source b → a ≡ b
  one_too_deep a b h k =
      let d = (deep_there h.lexemes h.cut a h).deeper in
      let e = (deep_there h.lexemes h.cut b k).deeper in
      let number = one_deep depth h.lexemes (length h.before) (length k.before) h.token k.token d e in
      let parts = same_parts d.before e.before d.after e.after h.token k.token
      (d.number ∙ number ∙ sym e.number) (sym d.whole ∙ e.whole) in
      h.at ∙ ap (λ (t : Lexeme). t.span) parts.1 ∙ sym k.at

  -- ---- a text has one answer

  abbrev SomeAnswer : Type 0
  SomeAnswer = HasTreeWithin S depth source ⊎ (IsRefusedWithin S depth source ⊎ IsNestedTooDeep S depth source)

  uncut_within : (error : LexicalError) (at : Place) → Breaks source error at → IsWithin S depth source
  uncut_within error at b = record { none = λ span h. (one_cut_or_break source).never_both h.lexemes error at h.cut b }

  module _ (ts : List Lexeme) (cut : Cut source ts) where
    shallow_has_one : IsShallowAt depth ts → SomeAnswer
    shallow_has_one shallow = elim (either_refused S source) [
      | inl tree ↦ inl (shallow_within ts cut shallow, tree)
      | inr refusal ↦ inr (inl (shallow_within ts cut shallow, refusal))
    ]

    module _ (i : ℕ) (t : Lexeme) (d : IsFirstDeeperAt depth ts i t) where
      -- where the tokens up to the deep one, and then an end, are refused tells which
      refused_has_one : (us : List Lexeme) (u : Lexeme) (e : Fault Error) → TellsDepth S ts i t us u e → SomeAnswer
      refused_has_one us u e (inl (end, begins)) =
          inr (inr (t.span, begun_too_deep ts cut i t d begins t.span refl))
      refused_has_one us u e (inr (inside, none, refused)) =
          inr (inl (
            unbegun_within ts cut i t d none,
            (
              _,
              by_clauses S source _ (refusal_of S source ts us u _ cut
                  (document_error UnexpectedEndOfFile unexpected S ts us u e refused)),
            ),
          ))

      deep_has_one : SomeAnswer
      deep_has_one =
          let all = cut_spelled source ts cut in
          let once = cut_ends source ts cut in
          elim (document_or_fault S (ended_by d.before t) (short_spelled S depth ts i t d all once)
          (short_ends S depth ts i t d all once)) [
            | inl tree ↦ absurd (short_no_document S depth ts i t d tree.0 tree.1)
            | inr r ↦ refused_has_one r.0 r.1 r.2 (short_tells S depth ts i t d all once r.0 r.1 r.2 r.3)
          ]

  some_answer : SomeAnswer
  some_answer = elim (one_cut_or_break source).some [
    | inl cut ↦ elim (shallow_or_deeper depth cut.0) [
      | inl shallow ↦ shallow_has_one cut.0 cut.1 shallow
      | inr deep ↦ deep_has_one cut.0 cut.1 deep.0 deep.1 deep.2
    ]
    | inr break ↦ inr (inl (
      uncut_within break.0 break.1 break.2,
      (lexical_fault break.0 break.1, by_clauses S source _ (lexical S source break.0 break.1 _ break.2 refl)),
    ))
  ]

  pub one_answer : HasOneResult S depth source
  one_answer = record {
    some = some_answer;
    tree_or_refused = λ tree refused. never_both_refused S source tree.1.0 refused.1.0 tree.1.1 refused.1.1;
    tree_or_too_deep = λ tree deep. tree.0.none deep.0 deep.1;
    refused_or_too_deep = λ refused deep. refused.0.none deep.0 deep.1;
  }
