-- What takes definitions, and grows.
use Rattle.std.proofs.Common.{◌≡◌, ◌⊎◌, inl, inr, List, ◌++◌, [], ◌∷◌, ℕ, refl, sym, ap, subst, ◌∙◌, append_assoc, append-nil}
use Rattle.std.specs.Prelude.{Ok, Option, Some, None}
use Rattle.graphql_lexical.specs.Cutting.{Lexeme, Cut}
use Rattle.graphql_lexical.specs.Nesting.{end_after}
use Rattle.graphql_lexical.proofs.Public.{one_cut_or_break}
use Rattle.graphql_grammar.specs.Tree.{Scalars, Definition}
use Rattle.graphql_grammar.specs.Grammar.{Each, IsDefinition}
use Rattle.graphql_grammar.specs.device.Productions.{definition}
use Rattle.graphql_grammar.proofs.Public.{cut_ends, end_parts}
use Rattle.juniper_tokens.specs.Cursor.{EndsOnce}
use Rattle.juniper_tokens.specs.Errors.{Error}
use Rattle.juniper_tokens.specs.Nesting.{EndsAtNesting}
use Rattle.juniper_tokens.specs.declared.span.Span as spans
use Rattle.juniper_documents.specs.Sinks.{StandInFront, Gains, GainsFront, GainsBeforeEnd}
use Rattle.juniper_parser.specs.device.Steps.{cursor}
use Rattle.juniper_parser.proofs.Public.{definition_taken}

-- ---- definitions in a row

push_each : {A : Type 0} (R : A → List Lexeme → Type 0) (front us : List Lexeme) (xs : List A) (x : A)
    → Each R xs front → R x us → Each R (xs ++ x ∷ []) (front ++ us)
push_each R front us [] x h r = record {
  front = us;
  back = [];
  whole = ap (λ (ts : List Lexeme). ts ++ us) h ∙ sym (append-nil us);
  first = r;
  second = refl;
}
push_each R front us (y ∷ ys) x h r = record {
  front = h.front;
  back = h.back ++ us;
  whole = ap (λ (ts : List Lexeme). ts ++ us) h.whole ∙ append_assoc h.front h.back us;
  first = h.first;
  second = push_each R h.back us ys x h.second r;
}

-- what stands before something stands before the last token
before_last : (us vs inner : List Lexeme) (v end : Lexeme) → us ++ v ∷ vs ≡ inner ++ end ∷ []
    → (ws : List Lexeme) × (inner ≡ us ++ ws)
before_last [] vs inner v end e = (inner, refl)
before_last (u ∷ us) vs [] v end e = absurd (nothing us vs v (let h : us ++ v ∷ vs ≡ [] = cc in h))
  where
    nothing : (us vs : List Lexeme) (v : Lexeme) → us ++ v ∷ vs ≡ [] → ⊥
    nothing [] vs v e = absurd (cc e)
    nothing (u ∷ us) vs v e = absurd (cc e)
before_last (u ∷ us) vs (x ∷ inner) v end e =
    let h : us ++ v ∷ vs ≡ inner ++ end ∷ [] = cc in
    let k : x ≡ u = cc in
    let r = before_last us vs inner v end h in
    (r.0, ap (λ (t : Lexeme). t ∷ inner) k ∙ ap (λ (ts : List Lexeme). u ∷ ts) r.1)

module _ {C : Type 0} (S : Scalars C Error) where
  -- no definition stands at the front of any list
  pub none_stands : (ts : List Lexeme) → StandInFront S ts []
  none_stands ts = record { front = []; rest = ts; whole = refl; each = refl }

  stand_before : (ts us : List Lexeme) (ds : List (Definition C)) → StandInFront S ts ds → StandInFront S (ts ++ us) ds
  stand_before ts us ds h = record {
    front = h.front;
    rest = h.rest ++ us;
    whole = ap (λ (xs : List Lexeme). xs ++ us) h.whole ∙ append_assoc h.front h.rest us;
    each = h.each;
  }

  -- These definitions were read from ts, and left is what is left.
  pub record WereRead (ts left : List Lexeme) (ds : List (Definition C)) : Type 0 where
    pub front : List Lexeme
    pub whole : ts ≡ front ++ left
    pub each : Each (IsDefinition S) ds front
    pub goes_on : (front ≡ []) ⊎ EndsOnce left

  pub none_read : (ts : List Lexeme) → WereRead ts ts []
  none_read ts = record { front = []; whole = refl; each = refl; goes_on = inl refl }

  pub one_more_read : {ts left : List Lexeme} {ds : List (Definition C)} (d : Definition C) (rest : List Lexeme)
      → WereRead ts left ds
      → cursor S definition left ≡ Ok (d, rest) → EndsOnce rest → WereRead ts rest (ds ++ d ∷ [])
  one_more_read {left = left} {ds = ds} d rest h e ended =
      let taken = definition_taken S left rest d e in record {
        front = h.front ++ taken.0;
        whole = h.whole ∙ ap (λ (xs : List Lexeme). h.front ++ xs) taken.1
            ∙ sym (append_assoc h.front taken.0 rest);
        each = push_each (IsDefinition S) h.front taken.0 ds d h.each taken.2;
        goes_on = inr ended;
      }

  pub read_before_end : {ts left : List Lexeme} {ds : List (Definition C)} → WereRead ts left ds
      → (inner : List Lexeme) (end : Lexeme) → ts ≡ inner ++ end ∷ [] → StandInFront S inner ds
  read_before_end {left = left} {ds = ds} h inner end e = by_goes_on h.goes_on
    where
      by_rest : (rest : List Lexeme) → EndsOnce rest → h.front ++ rest ≡ inner ++ end ∷ [] → StandInFront S inner ds
      by_rest [] ended q = absurd ended
      by_rest (t ∷ rest) ended q =
          let w = before_last h.front rest inner t end q in
          record { front = h.front; rest = w.0; whole = w.1; each = h.each }

      by_goes_on : (h.front ≡ []) ⊎ EndsOnce left → StandInFront S inner ds
      by_goes_on (inl none) = record {
        front = [];
        rest = inner;
        whole = refl;
        each = subst (λ (xs : List Lexeme). Each (IsDefinition S) ds xs) none h.each;
      }
      by_goes_on (inr ended) = by_rest left ended (sym h.whole ∙ e)

  -- What stands before the end of tokens that were ended after a deep one stands at the front of all.
  pub stand_in_all : (depth : ℕ) (source : List ℕ) (ts left : List Lexeme) (deep : Option spans.Span)
      (ds : List (Definition C)) → Cut source ts → EndsAtNesting depth ts deep left
      → ((inner : List Lexeme) (end : Lexeme) → left ≡ inner ++ end ∷ [] → StandInFront S inner ds)
      → StandInFront S ts ds
  stand_in_all depth source ts left None ds cut e h =
      let ends = end_parts ts (cut_ends source ts cut) in
      subst (λ (xs : List Lexeme). StandInFront S xs ds) (sym ends.whole)
      (stand_before ends.inner (ends.end ∷ []) ds (h ends.inner ends.end (e.1 ∙ ends.whole)))
  stand_in_all depth source ts left (Some span) ds cut (before, t, d, at, is) h =
      let short = h (before ++ t ∷ []) (end_after t) (is ∙ sym (append_assoc before (t ∷ []) (end_after t ∷ []))) in
      subst (λ (xs : List Lexeme). StandInFront S xs ds) (append_assoc before (t ∷ []) d.after ∙ sym d.whole)
      (stand_before (before ++ t ∷ []) d.after ds short)

-- ---- what has come

module _ {D C : Type 0} (holds : List ℕ → D → List (Definition C) → Type 0) where
  -- by some definitions, and then by others
  pub grown : {old mid new : D} {xs ys : List (Definition C)}
      → Gains holds old mid xs → Gains holds mid new ys → Gains holds old new (xs ++ ys)
  grown {new = new} {xs = xs} {ys = ys} p q = record {
    definitions = λ source before h.
        let more = q.definitions source (before ++ xs) (p.definitions source before h) in
        subst (holds source new) (append_assoc before xs ys) more;
  }

  -- by none
  pub grown_none : (it : D) → Gains holds it it []
  grown_none it = record { definitions = λ source before h. subst (holds source it) (sym (append-nil before)) h }

  -- by some, and then by none
  pub grown_still : {old mid new : D} {xs : List (Definition C)}
      → Gains holds old mid xs → Gains holds mid new [] → Gains holds old new xs
  grown_still {old} {mid} {new} {xs} p q =
      subst (λ (ds : List (Definition C)). Gains holds old new ds) (append-nil xs) (grown p q)

  -- Nothing was given of any text.
  pub none_given : (S : Scalars C Error) (source : List ℕ) (it : D) → GainsFront holds it it S source
  none_given S source it = record {
    given = [];
    gains = grown_none it;
    in_front = λ lexemes cut. none_stands S lexemes;
    none = λ error at broken. refl;
  }

  -- What was given of the tokens of a text, or of those up to a deep one, was given of the text.
  pub given_of_text : (S : Scalars C Error) (depth : ℕ) (source : List ℕ) (ts left : List Lexeme)
      (deep : Option spans.Span) {old new : D} → Cut source ts → EndsAtNesting depth ts deep left
      → GainsBeforeEnd holds old new S left → GainsFront holds old new S source
  given_of_text S depth source ts left deep cut e h = record {
    given = h.given;
    gains = h.gains;
    in_front = λ lexemes other. subst (λ (xs : List Lexeme). StandInFront S xs h.given)
        ((one_cut_or_break source).one_cut ts lexemes cut other) (stand_in_all S depth source ts left deep h.given cut e h.in_front);
    none = λ error at broken. absurd ((one_cut_or_break source).never_both ts error at cut broken);
  }
