-- What the readings of selections and definitions keep.
use Rattle.std.proofs.Common.{ℕ, zero, suc, true, ◌≡◌, ◌≤◌, ◌<◌, ◌∷◌, [], List, ◌++◌, length, refl, sym, ap, ◌∙◌, subst, arith, append-nil, zero-le, le_refl, codes, inl, inr, ◌⊎◌, ◌||◌, Option, Some, None}
use Rattle.std.proofs.lemmas.Bool.{or_cases}
use Rattle.graphql_lexical.specs.Place.{Span}
use Rattle.graphql_lexical.specs.declared.kind.Kind.TheVariants.{Name, CurlyOpen, CurlyClose, Ellipsis, Colon, EndOfFile}
use Rattle.graphql_lexical.specs.Cutting.{Lexeme}
use Rattle.graphql_grammar.specs.Tokens.{Text, word_of, Word, span_of}
use Rattle.graphql_grammar.specs.Samples.{sample, token_of}
use Rattle.graphql_grammar.specs.device.Reading.{passes, of, word, a_selection}
use Rattle.graphql_grammar.specs.device.Productions.{selections_inner, selection_set, optional_set, optional_of, names, field, named_spread, inline_parts, inline, typed, spread, any_selection, optional_name, operation, type_condition, fragment_name, fragment, shorthand, definition, document, operation_word, operation_of, other_than_on, symbol_at, reads}
use Rattle.graphql_grammar.specs.Tree.{Scalars, Selection, Field, FragmentSpread, InlineFragment, Selections, no_selections, selection, Definition, Operation, Fragment, absent, operation_name, Directives, selections_of}
use Rattle.graphql_grammar.specs.declared.operation.OperationType.TheVariants.{Query}
use Rattle.graphql_lexical.specs.Parts.{◌·◌}
use Rattle.graphql_grammar.specs.Grammar.{Each, Optional, Is, IsWord, Says, IsArguments, IsDirectives, IsVariables, IsAlias, IsTypeCondition, IsFragmentName, IsSelection, IsOptionalSelectionSet, IsSelectionSet, AreSelections, IsDefinition, IsDocument}
use Rattle.graphql_grammar.proofs.Rules.{less, Rule, Some_of, done_rule}
use Rattle.graphql_grammar.proofs.TokenRules.{on_rule, look_rule}
use Rattle.graphql_grammar.proofs.PartRules.{span_rule, maybe_rule, some_rule, one_or_more_rule, step, want_step, lower, less_short, ClosedSome}
use Rattle.graphql_grammar.proofs.Sequences.{row, row_back, row_right, enclosed, kind_is, word_is, says_is, one_takes, is_takes, says_takes, front_takes, back_takes}
use Rattle.graphql_grammar.proofs.TokenTests.{of_kind, both, text_yes, says, other}
use Rattle.graphql_grammar.proofs.DocumentRules.{low1, low2, low3, optional_arguments_rule, directives_rule, optional_variables_rule}

module _ {C F : Type 0} (S : Scalars C F) where
  pub word_takes : (ts : List Lexeme) (w : Word) → IsWord w ts → 0 < length ts
  word_takes ts w h = one_takes ts _ h

  selections_are : (ts : List Lexeme) (xs : List (Selection C)) → Each (IsSelection S) xs ts
      → AreSelections S (selections_of xs) ts
  selections_are ts [] h = h
  selections_are ts (x ∷ xs) h = row_back (λ us k. selections_are us xs k) ts h

  select_is : (t : Lexeme) (us : List Lexeme) (xs : List (Selection C)) → passes (of CurlyOpen) t ≡ true
      → ClosedSome (of CurlyClose) (IsSelection S) xs us → IsSelectionSet S (selections_of xs) (t ∷ us)
  select_is t us [] p c = absurd c
  select_is t us (x ∷ xs) p c = subst (λ l. IsSelectionSet S (selections_of (x ∷ xs)) (t ∷ l)) (sym c.whole)
      (row_back row_right _ (enclosed CurlyOpen CurlyClose t c.last c.inner (of_kind CurlyOpen t p)
      (of_kind CurlyClose c.last c.closes) (selections_are c.inner (x ∷ xs) c.each)))

  pub select_takes : (ts : List Lexeme) (ss : Selections C) → IsSelectionSet S ss ts → 0 < length ts
  select_takes ts no_selections h = absurd h
  select_takes ts (selection s ss) h = front_takes (is_takes CurlyOpen) ts h

  pub selection_takes : (ts : List Lexeme) (s : Selection C) → IsSelection S s ts → 0 < length ts
  selection_takes ts (Field alias name args ds ss p) h =
      back_takes (front_takes (λ us w. word_takes us name w)) ts h.0
  selection_takes ts (FragmentSpread name ds p) h = front_takes (is_takes Ellipsis) ts h.0
  selection_takes ts (InlineFragment condition ds ss p) h = front_takes (is_takes Ellipsis) ts h.0

  some_selection : Some_of (IsSelection S)
  some_selection = (
    x ∷ [],
    Field None (word_of x) None None absent (span_of (x ∷ [])),
    (row [] (x ∷ []) refl (row (x ∷ []) [] refl (row [] [] refl (row [] [] refl refl))), refl),
    (inl refl, tt),
  )
    where
      x : Lexeme
      x = sample Name

  abbrev pub IsFieldName : Option Word × Word → List Lexeme → Type 0
  IsFieldName h ts = (Optional (IsAlias S) h.0 · IsWord h.1) ts

  pub field_name_takes : (ts : List Lexeme) (h : Option Word × Word) → IsFieldName h ts → 0 < length ts
  field_name_takes ts h k = back_takes (λ us w. word_takes us h.1 w) ts k

  pub names_rule : (k n m : ℕ) → Rule k (reads S n names) (reads S m names) IsFieldName
  names_rule k n m = want_step k (of Name) (sample Name) _ _ _ refl (inl refl) (λ a a' p.
      on_rule _ (of Colon) _ _ _ _ _
      (λ c c' q. want_step _ (of Name) (sample Name) _ _ _ refl (inl refl)
      (λ t t' r. done_rule _ (Some (word_of a), word_of t) (Some (word_of a'), word_of t') _ (row (a ∷ c ∷ []) (t ∷ [])
      (row (a ∷ []) (c ∷ []) (word_is a (of_kind Name a p)) (kind_is Colon c (of_kind Colon c q)))
      (word_is t (of_kind Name t r)))))
      (done_rule _ (None, word_of a) (None, word_of a') _ (row [] (a ∷ []) refl (word_is a (of_kind Name a p)))))

  pub optional_is : (ts : List Lexeme) (o : Option (Selections C)) → Optional (IsSelectionSet S) o ts
      → IsOptionalSelectionSet S (optional_of o) ts
  optional_is ts None h = h
  optional_is ts (Some s) h = h

  -- directives and a selection set
  abbrev pub IsBody : List Lexeme → Directives C → Selections C → Type 0
  IsBody ts ds ss = (IsDirectives S ds · IsSelectionSet S ss) ts

  abbrev pub AreInlineParts : Directives C × Selections C → List Lexeme → Type 0
  AreInlineParts b ts = IsBody ts b.0 b.1

  module _ (n m : ℕ) (le : n ≤ m)
      (r : Rule n (symbol_at S n _ a_selection) (symbol_at S m _ a_selection) (IsSelection S)) where
    set_by : Rule n (reads S n selection_set) (reads S m selection_set) (IsSelectionSet S)
    unfolding selection_set selections_inner
    set_by = want_step n (of CurlyOpen) (sample CurlyOpen) _ _ _ refl (inl refl) (λ o o' p.
        step n _ _ _ _ _ (ClosedSome (of CurlyClose) (IsSelection S)) _ (lower n n (o ∷ []) (le_refl n))
        (one_or_more_rule (IsSelection S) selection_takes (of CurlyClose) (sample CurlyClose) refl (inl refl) _ _ n
        m le r) (λ us xs ys h.
        done_rule _ (selections_of xs) (selections_of ys) _ (rw append-nil (select_is o us xs p h))))

    optional_set_by : Rule n (reads S n optional_set) (reads S m optional_set) (Optional (IsSelectionSet S))
    unfolding optional_set
    optional_set_by = maybe_rule n (of CurlyOpen) _ _ (IsSelectionSet S) set_by

    field_by : Rule (suc n) (reads S n field) (reads S m field) (IsSelection S)
    unfolding field
    field_by = span_rule (suc n) _ _ (IsSelection S)
        (step (suc n) (suc n) _ _ _ _ IsFieldName _ (le_refl (suc n)) (names_rule (suc n) n m)
        (λ us h h' a.
        step n (less (suc n) us) _ _ _ _ (Optional (IsArguments S)) _ (less_short n us (field_name_takes us h a))
        (optional_arguments_rule S n m le) (λ vs xs xs' b.
        step n _ _ _ _ _ (IsDirectives S) _ (lower n _ vs (less_short n us (field_name_takes us h a)))
        (directives_rule S n m le) (λ ws ds ds' c.
        step n _ _ _ _ _ (Optional (IsSelectionSet S)) _
        (lower n _ ws (lower n _ vs (less_short n us (field_name_takes us h a)))) optional_set_by (λ zs ss ss' d.
        done_rule _ (Field h.0 h.1 xs ds (optional_of ss))
        (Field h'.0 h'.1 xs' ds' (optional_of ss')) _
        (rw append-nil (
          row_right _ (row us (vs ++ (ws ++ zs)) a (row vs (ws ++ zs) b (row ws zs c (optional_is zs ss d)))),
          refl,
        )))))))

    inline_parts_by : Rule n (reads S n inline_parts) (reads S m inline_parts) AreInlineParts
    unfolding inline_parts
    inline_parts_by = step n n _ _ _ _ (IsDirectives S) _ (le_refl n) (directives_rule S n m le)
        (λ us ds ds' c.
        step n _ _ _ _ _ (IsSelectionSet S) _ (lower n n us (le_refl n)) set_by (λ vs ss ss' d.
        done_rule _ (ds, ss) (ds', ss') _ (rw append-nil (row us vs c d))))

    inline_by : (k : ℕ) (w w' : Option Word) (G : (Span → Selection C) → List Lexeme → Type 0) → k ≤ n
        → ((us : List Lexeme) (ds : Directives C) (ss : Selections C) → IsBody us ds ss → G (InlineFragment w ds ss) us)
        → Rule k (reads S n (inline w)) (reads S m (inline w')) G
    unfolding inline
    inline_by k w w' G lk h = step n k _ _ _ _ AreInlineParts _ lk inline_parts_by (λ us b b' c.
        done_rule _ (InlineFragment w b.0 b.1) (InlineFragment w' b'.0 b'.1) _ (rw append-nil (h us b.0 b.1 c)))

    spread_by : Rule (suc n) (reads S n spread) (reads S m spread) (IsSelection S)
    unfolding spread typed named_spread
    spread_by = span_rule (suc n) _ _ (IsSelection S)
        (want_step (suc n) (of Ellipsis) (sample Ellipsis) _ _ _ refl (inl refl) (λ e e' p.
        on_rule n (word (codes "on")) _ _ _ _ _
        (λ o o' q. want_step _ (of Name) (sample Name) _ _ _ refl (inl refl) (λ t t' x.
        inline_by _ (Some (word_of t)) (Some (word_of t')) _
        (lower n _ (t ∷ []) (lower n n (o ∷ []) (le_refl n)))
        (λ us ds ss b. (
          row (e ∷ []) (o ∷ t ∷ us) (dots e p)
              (row (o ∷ t ∷ []) us (row (o ∷ []) (t ∷ []) (says _ o q) (word_is t (of_kind Name t x))) b),
          refl,
        ))))
        (on_rule n other_than_on _ _ _ _ _
        (λ t t' q. step n _ _ _ _ _ (IsDirectives S) _ (lower n n (t ∷ []) (le_refl n))
        (directives_rule S n m le) (λ us ds ds' c.
        done_rule _ (FragmentSpread (word_of t) ds) (FragmentSpread (word_of t') ds') _
        (rw append-nil (
          row (e ∷ []) (t ∷ us) (dots e p) (row (t ∷ []) us (word_is t (other t q).0, (other t q).1) c),
          refl,
        ))))
        (inline_by n None None _ (le_refl n)
        (λ us ds ss b. (row (e ∷ []) us (dots e p) (row [] us refl b), refl))))))
      where
        dots : (e : Lexeme) → passes (of Ellipsis) e ≡ true → Is Ellipsis (e ∷ [])
        dots e p = kind_is Ellipsis e (of_kind Ellipsis e p)

  pub selection_rule : (n m : ℕ) → n ≤ m
      → Rule n (symbol_at S n _ a_selection) (symbol_at S m _ a_selection) (IsSelection S)
  unfolding symbol_at any_selection
  selection_rule zero m le = record { at = λ ts. (zero-le, [], ts, refl, some_selection) }
  selection_rule (suc n) zero le = absurd (omega arith)
  selection_rule (suc n) (suc m) le = look_rule (suc n) (of Ellipsis) _ _ _ _ (IsSelection S)
      (spread_by n m (omega arith) (selection_rule n m (omega arith)))
      (field_by n m (omega arith) (selection_rule n m (omega arith)))

  -- Definitions
  one_word : (w : Text) (t : Lexeme) → operation_name (operation_of w) ≡ w → passes (word w) t ≡ true
      → Says (operation_name (operation_of t.text)) (t ∷ [])
  one_word w t k p = let e = text_yes t.text w (both _ _ p).1 in
      says_is _ t (of_kind Name t (both _ _ p).0) (e ∙ sym k ∙ ap (λ z. operation_name (operation_of z)) (sym e))

  two_words : (t : Lexeme) → (passes (word (codes "query")) t ≡ true) ⊎ (passes (word (codes "mutation")) t ≡ true)
      → Says (operation_name (operation_of t.text)) (t ∷ [])
  two_words t (inl x) = one_word _ t refl x
  two_words t (inr x) = one_word _ t refl x

  three_words : (t : Lexeme) → ((passes (word (codes "query")) t || passes (word (codes "mutation")) t) ≡ true)
      ⊎ (passes (word (codes "subscription")) t ≡ true) → Says (operation_name (operation_of t.text)) (t ∷ [])
  three_words t (inl x) = two_words t (or_cases _ _ x)
  three_words t (inr x) = one_word _ t refl x

  operation_says : (t : Lexeme) → passes operation_word t ≡ true → Says (operation_name (operation_of t.text)) (t ∷ [])
  operation_says t e = three_words t (or_cases _ _ e)

  pub definition_takes : (ts : List Lexeme) (d : Definition C) → IsDefinition S d ts → 0 < length ts
  definition_takes ts (Operation kind name vars ds ss p) (inl h, q) = select_takes ts ss h.0
  definition_takes ts (Operation kind name vars ds ss p) (inr h, q) = front_takes (says_takes _) ts h
  definition_takes ts (Fragment name condition ds ss p) h = front_takes (says_takes _) ts h.0

  pub optional_name_rule : (k n m : ℕ) → Rule k (reads S n optional_name) (reads S m optional_name) (Optional IsWord)
  optional_name_rule k n m = look_rule k (of Name) _ _ _ _ (Optional IsWord)
      (want_step k (of Name) (sample Name) _ _ (Optional IsWord) refl (inl refl)
      (λ t t' p. done_rule _ (Some (word_of t)) (Some (word_of t')) _ (word_is t (of_kind Name t p))))
      (done_rule k None None (Optional IsWord) refl)

  pub type_condition_rule : (k n m : ℕ)
      → Rule k (reads S n type_condition) (reads S m type_condition) (IsTypeCondition S)
  type_condition_rule k n m =
      want_step k (word (codes "on")) (token_of Name (codes "on")) _ _ _ refl (inr (inr (refl, refl)))
      (λ o o' p. want_step _ (of Name) (sample Name) _ _ _ refl (inl refl)
      (λ t t' q. done_rule _ (word_of t) (word_of t') _
      (row (o ∷ []) (t ∷ []) (says _ o p) (word_is t (of_kind Name t q)))))

  pub fragment_name_rule : (k n m : ℕ)
      → Rule k (reads S n fragment_name) (reads S m fragment_name) (IsFragmentName S)
  fragment_name_rule k n m = want_step k other_than_on (sample Name) _ _ _ refl (inl refl)
      (λ t t' p. done_rule _ (word_of t) (word_of t') _ (word_is t (other t p).0, (other t p).1))

  module _ (n m : ℕ) (le : n ≤ m) where
    -- selections and their parts, with as much fuel for each
    pub set_rule : Rule n (reads S n selection_set) (reads S m selection_set) (IsSelectionSet S)
    set_rule = set_by n m le (selection_rule n m le)

    pub inline_parts_rule : Rule n (reads S n inline_parts) (reads S m inline_parts) AreInlineParts
    inline_parts_rule = inline_parts_by n m le (selection_rule n m le)

    abbrev IsOperation : (Span → Definition C) → List Lexeme → Type 0
    IsOperation k us = IsDefinition S (k (span_of us)) us

    operation_rule : (t t' : Lexeme) → passes operation_word t ≡ true
        → Rule (less n (t ∷ [])) (reads S n (operation (operation_of t.text)))
        (reads S m (operation (operation_of t'.text))) (λ k us. IsOperation k (t ∷ us))
    unfolding operation
    operation_rule t t' p = step n (less n (t ∷ [])) _ _ _ _ (Optional IsWord) _ (low1 S n m le (t ∷ []))
        (optional_name_rule n n m) (λ us name name' a.
        step n _ _ _ _ _ (Optional (IsVariables S)) _ (low2 S n m le (t ∷ []) us)
        (optional_variables_rule S n m le) (λ vs vars vars' b.
        step n _ _ _ _ _ AreInlineParts _ (low3 S n m le (t ∷ []) us vs) inline_parts_rule (λ ws x x' c.
        done_rule _ (Operation (operation_of t.text) name vars x.0 x.1)
        (Operation (operation_of t'.text) name' vars' x'.0 x'.1) _
        (rw append-nil (
          inr (row (t ∷ []) (us ++ (vs ++ ws)) (operation_says t p)
              (row us (vs ++ ws) a (row vs ws b c))),
          refl,
        )))))

    fragment_rule : (t t' : Lexeme) → passes (word (codes "fragment")) t ≡ true
        → Rule (less n (t ∷ [])) (reads S n fragment) (reads S m fragment)
        (λ k us. IsOperation k (t ∷ us))
    unfolding fragment
    fragment_rule t t' p = step n (less n (t ∷ [])) _ _ _ _ (IsFragmentName S) _ (low1 S n m le (t ∷ []))
        (fragment_name_rule n n m) (λ us name name' a.
        step n _ _ _ _ _ (IsTypeCondition S) _ (low2 S n m le (t ∷ []) us)
        (type_condition_rule n n m) (λ vs on on' b.
        step n _ _ _ _ _ AreInlineParts _ (low3 S n m le (t ∷ []) us vs) inline_parts_rule (λ ws x x' c.
        done_rule _ (Fragment name on x.0 x.1) (Fragment name' on' x'.0 x'.1) _
        (rw append-nil (
          row (t ∷ []) (us ++ (vs ++ ws)) (says _ t p) (row us (vs ++ ws) a (row vs ws b c)),
          refl,
        )))))

    pub definition_rule : Rule n (reads S n definition) (reads S m definition) (IsDefinition S)
    unfolding definition shorthand
    definition_rule = span_rule n _ _ (IsDefinition S)
        (on_rule n operation_word _ _ _ _ _ (λ t t' p. operation_rule t t' p)
        (on_rule n (word (codes "fragment")) _ _ _ _ _ (λ t t' p. fragment_rule t t' p)
        (step n n _ _ _ _ (IsSelectionSet S) _ (le_refl n) set_rule (λ us ss ss' h.
        done_rule _ (Operation Query None None None ss) (Operation Query None None None ss') _
        (rw append-nil (inl (h, refl, refl, refl, refl), refl))))))

    document_is : (ts : List Lexeme) (ds : List (Definition C)) → ClosedSome (of EndOfFile) (IsDefinition S) ds ts
        → IsDocument S ds ts
    document_is ts [] h = absurd h
    document_is ts (d ∷ ds) h = record {
      front = h.inner;
      back = h.last ∷ [];
      whole = h.whole;
      first = (h.each, λ e. absurd (cc));
      second = kind_is EndOfFile h.last (of_kind EndOfFile h.last h.closes);
    }

    pub document_rule : Rule n (reads S n document) (reads S m document) (IsDocument S)
    unfolding document
    document_rule = some_rule (IsDefinition S) definition_takes (of EndOfFile) (sample EndOfFile) refl (inl refl) _ _ n
        m (λ d r. d ∷ r.0) (IsDocument S) le definition_rule (λ us d r h. document_is us (d ∷ r.0) h)
