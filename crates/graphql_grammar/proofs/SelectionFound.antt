-- What is in the grammar of selections and definitions is read.
use Rattle.std.proofs.Common.{ℕ, zero, suc, true, ◌≡◌, ◌<◌, ◌∷◌, [], List, ◌++◌, length, refl, sym, ap, ◌∙◌, arith, append-nil, codes, inl, inr, ◌⊎◌, Option, Some, None, not}
use Rattle.graphql_lexical.specs.Place.{Span}
use Rattle.graphql_lexical.specs.declared.kind.Kind.TheVariants.{Name, ParenOpen, CurlyOpen, CurlyClose, Ellipsis, Colon, At, EndOfFile}
use Rattle.graphql_lexical.specs.Cutting.{Lexeme}
use Rattle.graphql_grammar.specs.Tokens.{Word, word_of, span_of}
use Rattle.graphql_grammar.specs.device.Reading.{Test, passes, of, word, Took, Reader, seq, done, a_selection}
use Rattle.graphql_grammar.specs.device.Productions.{optional_variables, selections_inner, selection_set, optional_set, optional_of, names, field, named_spread, inline_parts, inline, typed, other_than_on, spread, any_selection, operation_word, operation_of, optional_name, operation, fragment, shorthand, definition_parts, definition, document, symbol_at, reads}
use Rattle.graphql_grammar.specs.Tree.{Scalars, Arguments, Variables, Selection, Field, FragmentSpread, InlineFragment, Selections, no_selections, selection, Definition, Operation, Fragment, Directives, OptionalSelections, absent, present, operation_name, selections_of}
use Rattle.graphql_grammar.specs.declared.operation.OperationType.{OperationType}
use Rattle.graphql_grammar.specs.declared.operation.OperationType.TheVariants.{Query, Mutation, Subscription}
use Rattle.graphql_lexical.specs.Parts.{◌·◌}
use Rattle.graphql_grammar.specs.Grammar.{Is, Says, Each, Optional, IsWord, IsArguments, IsDirectives, IsVariables, IsAlias, IsTypeCondition, IsFragmentName, IsSelection, IsOptionalSelectionSet, IsSelectionSet, AreSelections, IsDefinition, IsDocument}
use Rattle.graphql_grammar.proofs.Sequences.{row_front, row_back, row_right, row_left, back_takes, nothing_first, nothing_last}
use Rattle.graphql_grammar.proofs.TokenTests.{text_other}
use Rattle.graphql_grammar.proofs.Finds.{Any, NotAt, token, Finds, Before, StartsWith, is_starts, says_starts, front_starts, word_starts, Rejects, starts_before, only_before, nothing_before, both_before, front_before, any_before, found_as, found_if, found_is, map_found, on_apart, look_apart, look_found, given_found, either_found, seq_found, then_found, seq_past, want_found, word_found, done_found, is_found, says_found, closed_found, on_found, is_past, is_then, span_found, maybe_found, several_found, one_or_more_found}
use Rattle.graphql_grammar.proofs.SelectionRules.{selection_takes, definition_takes, word_takes}
use Rattle.graphql_grammar.proofs.DocumentFound.{AfterDirectives, directives_before, directives_found, optional_arguments, arguments_before, variables_found, variables_start, variables_before}

-- ---- the words that operations begin with

operation_test : (type : OperationType) (p : Span) → passes operation_word (token Name (operation_name type) p) ≡ true
operation_test Query p = refl
operation_test Mutation p = refl
operation_test Subscription p = refl

operation_is : (type : OperationType) → operation_of (operation_name type) ≡ type
operation_is Query = refl
operation_is Mutation = refl
operation_is Subscription = refl

module _ {C F : Type 0} (S : Scalars C F) where
  -- a fragment's name, and then the others
  fragment_name_found : {A : Type 0} {n : ℕ} {f : Reader F A} {Q After : List Lexeme → Type 0} {a : A} (w : Word)
      → ((w.item ≡ codes "on" → ⊥) → Finds n f (IsWord w · Q) After a)
      → Finds n f (IsFragmentName S w · Q) After a
  fragment_name_found w q = found_as (λ ts h. (row_front (λ us k. k.0) ts h, h.first.1)) (given_found q)

  -- ---- how selections begin, and what may follow them

  -- after a selection
  abbrev AfterSelection : List Lexeme → Type 0
  AfterSelection rest = record {
    colon : NotAt (of Colon) rest;
    paren : NotAt (of ParenOpen) rest;
    at : NotAt (of At) rest;
    curly : NotAt (of CurlyOpen) rest;
  }

  field_starts : (alias : Option Word) (name : Word) {Q : List Lexeme → Type 0} (ts : List Lexeme)
      → (Optional (IsAlias S) alias · IsWord name · Q) ts → StartsWith Name ts
  field_starts None name ts h = front_starts (λ us w. word_starts us name w) ts (nothing_first ts h)
  field_starts (Some x) name ts h = front_starts (front_starts (λ us w. word_starts us x w)) ts h

  set_starts : (ts : List Lexeme) (ss : Selections C) → IsSelectionSet S ss ts → StartsWith CurlyOpen ts
  set_starts ts no_selections h = absurd h
  set_starts ts (selection s ss) h = front_starts is_starts ts h

  set_before : {After : List Lexeme → Type 0} (test : Test) (ss : Selections C) → Rejects test CurlyOpen
      → Before (IsSelectionSet S ss) After (NotAt test)
  set_before test ss d = starts_before test d (λ ts h. set_starts ts ss h)

  set_after_directives : {After : List Lexeme → Type 0} (ss : Selections C)
      → Before (IsSelectionSet S ss) After AfterDirectives
  set_after_directives ss = record {
    at = λ ts rest h g. rw (set_starts ts ss h).3 (record { paren = refl; at = refl });
  }

  -- directives and a selection set
  tail_before : {After : List Lexeme → Type 0} (test : Test) (ds : Directives C) (ss : Selections C) → Rejects test At
      → Rejects test CurlyOpen → Before (IsDirectives S ds · IsSelectionSet S ss) After (NotAt test)
  tail_before test ds ss d e = both_before (directives_before S test ds d (λ rest g. g)) (set_before test ss e)

  optional_set_before : {After : List Lexeme → Type 0} (test : Test) (ss : OptionalSelections C)
      → Rejects test CurlyOpen → ((rest : List Lexeme) → After rest → NotAt test rest)
      → Before (IsOptionalSelectionSet S ss) After (NotAt test)
  optional_set_before test absent d s = nothing_before s
  optional_set_before test (present ss) d s = set_before test ss d

  optional_set_after_directives : (ss : OptionalSelections C)
      → Before (IsOptionalSelectionSet S ss) AfterSelection AfterDirectives
  optional_set_after_directives absent = nothing_before (λ rest g. record { paren = g.paren; at = g.at })
  optional_set_after_directives (present ss) = set_after_directives ss

  selection_before : (s : Selection C) → Before (IsSelection S s) Any AfterSelection
  selection_before s = record { at = λ ts rest h g. cases s ts rest h }
    where
      cases : (s : Selection C) (ts rest : List Lexeme) → IsSelection S s ts → AfterSelection (ts ++ rest)
      cases (Field alias name args ds ss p) ts rest h =
          rw (field_starts alias name ts h.0).3 (record { colon = refl; paren = refl; at = refl; curly = refl })
      cases (FragmentSpread name ds p) ts rest h =
          rw (front_starts is_starts ts h.0).3 (record { colon = refl; paren = refl; at = refl; curly = refl })
      cases (InlineFragment condition ds ss p) ts rest h =
          rw (front_starts is_starts ts h.0).3 (record { colon = refl; paren = refl; at = refl; curly = refl })

  selection_apart : (s : Selection C) → Before (IsSelection S s) Any (NotAt (of CurlyClose))
  selection_apart (Field alias name args ds ss p) =
      starts_before (of CurlyClose) (λ w. refl) (λ ts h. field_starts alias name ts h.0)
  selection_apart (FragmentSpread name ds p) =
      starts_before (of CurlyClose) (λ w. refl) (λ ts h. front_starts is_starts ts h.0)
  selection_apart (InlineFragment condition ds ss p) =
      starts_before (of CurlyClose) (λ w. refl) (λ ts h. front_starts is_starts ts h.0)

  -- ---- lists of selections, of both forms

  abbrev selections_in : Selections C → List (Selection C)
  selections_in no_selections = []
  selections_in (selection s ss) = s ∷ selections_in ss

  selections_again : (ss : Selections C) → selections_of (selections_in ss) ≡ ss
  selections_again no_selections = refl
  selections_again (selection s ss) = ap (selection s) (selections_again ss)

  each_selection : (ss : Selections C) (ts : List Lexeme) → AreSelections S ss ts
      → Each (IsSelection S) (selections_in ss) ts
  each_selection no_selections ts h = h
  each_selection (selection s ss) ts h = row_back (each_selection ss) ts h

  -- ---- the parts of selections

  module _ (n : ℕ)
      (ih : (s : Selection C) → Finds n (symbol_at S n (Selection C) a_selection)
      (IsSelection S s) AfterSelection s)
    where
      set_found : {After : List Lexeme → Type 0} (ss : Selections C)
          → Finds n (reads S n selection_set) (IsSelectionSet S ss) After ss
      unfolding selection_set selections_inner
      set_found no_selections = record { at = λ ts rest le h g. absurd h }
      set_found (selection s ss) = found_is (ap (selection s) (selections_again ss))
          (found_as (row_back (λ us k. row_left us (row_back (row_front (each_selection ss)) us k)))
          (is_then (closed_found (λ w p. map_found selections_of (found_if (λ rest g. tt)
          (one_or_more_found CurlyClose (selection_takes S) ih selection_apart selection_before
          (λ w p rest. record { colon = refl; paren = refl; at = refl; curly = refl }) w p s (selections_in ss)))))))

      -- a selection set that may be absent, and nothing after it
      optional_set_last : {A : Type 0} (k : OptionalSelections C → A) (ss : OptionalSelections C)
          → Finds n (seq (reads S n optional_set) (λ x. done (k (optional_of x)))) (IsOptionalSelectionSet S ss)
          (NotAt (of CurlyOpen)) (k ss)
      unfolding optional_set
      optional_set_last k absent = map_found (λ x. k (optional_of x))
          (look_apart (of CurlyOpen) _ (nothing_before (λ rest g. g)) done_found)
      optional_set_last k (present ss) = map_found (λ x. k (optional_of x))
          (look_found CurlyOpen _ (λ ts h. set_starts ts ss h) (map_found (λ a. Some a) (set_found ss)))

      name_found : {m : ℕ} (alias : Option Word) (name : Word)
          → Finds m (reads S n names) (Optional (IsAlias S) alias · IsWord name) (NotAt (of Colon))
          (alias, name)
      name_found None name = found_as (λ ts h. nothing_last ts (nothing_first ts h)) (seq_found _ (word_found name)
          (nothing_before (λ rest g. g)) (on_apart (of Colon) _ (nothing_before (λ rest g. g)) done_found))
      name_found (Some x) name = found_as row_right (then_found _ (word_found x)
          (is_found (λ w p. on_found (of Colon) (token Colon w p) _ _ refl (map_found _ (word_found name)))))

      parts_found : {After : List Lexeme → Type 0} (ds : Directives C) (ss : Selections C)
          → Finds n (reads S n inline_parts) (IsDirectives S ds · IsSelectionSet S ss) After (ds, ss)
      unfolding inline_parts
      parts_found ds ss = seq_found _ (directives_found S n ds) (set_after_directives ss)
          (map_found (λ s. (ds, s)) (set_found ss))

      body_found : {A : Type 0} {After : List Lexeme → Type 0} (k : Directives C → Selections C → A) (ds : Directives C)
          (ss : Selections C)
          → Finds n (seq (reads S n inline_parts) (λ b. done (k b.0 b.1)))
          (IsDirectives S ds · IsSelectionSet S ss) After (k ds ss)
      body_found k ds ss = map_found (λ b. k b.0 b.1) (parts_found ds ss)

      spread_found : (name : Word) (ds : Directives C) (p : Span)
          → Finds (suc n) (reads S n spread)
          (λ ts. (Is Ellipsis · IsFragmentName S name · IsDirectives S ds) ts × (p ≡ span_of ts))
          AfterSelection (FragmentSpread name ds p)
      unfolding spread typed inline named_spread
      spread_found name ds p = span_found (λ q. FragmentSpread name ds q) p (is_past (fragment_name_found name (λ d.
          on_apart (word (codes "on")) _ (front_before (only_before _ (text_other name.item (codes "on") d)))
          (on_found other_than_on (token Name name.item name.span) _ _
          (ap not (text_other name.item (codes "on") d))
          (found_if (λ rest g. record { paren = g.paren; at = g.at })
          (map_found (λ x q. FragmentSpread name x q) (directives_found S n ds)))))))

      condition_found : (condition : Option Word) (ds : Directives C) (ss : Selections C) (p : Span)
          → Finds (suc n) (reads S n spread)
          (λ ts. (Is Ellipsis · Optional (IsTypeCondition S) condition · IsDirectives S ds
          · IsSelectionSet S ss) ts × (p ≡ span_of ts)) AfterSelection (InlineFragment condition ds ss p)
      unfolding spread typed inline named_spread
      condition_found None ds ss p = span_found (λ q. InlineFragment None ds ss q) p (is_past (found_as nothing_first
          (on_apart (word (codes "on")) _ (tail_before (word (codes "on")) ds ss (λ w. refl) (λ w. refl))
          (on_apart other_than_on _ (tail_before other_than_on ds ss (λ w. refl) (λ w. refl))
          (body_found (λ x s q. InlineFragment None x s q) ds ss)))))
      condition_found (Some w) ds ss p = span_found (λ q. InlineFragment (Some w) ds ss q) p
          (is_past (found_as row_right
          (says_found (λ o. on_found (word (codes "on")) (token Name (codes "on") o) _ _ refl
          (then_found _ (word_found w) (body_found (λ x s q. InlineFragment (Some w) x s q) ds ss))))))

      field_found : (alias : Option Word) (name : Word) (args : Option (Arguments C)) (ds : Directives C)
          (ss : OptionalSelections C) (p : Span)
          → Finds (suc n) (reads S n field)
          (λ ts. (Optional (IsAlias S) alias · IsWord name · Optional (IsArguments S) args
          · IsDirectives S ds · IsOptionalSelectionSet S ss) ts × (p ≡ span_of ts)) AfterSelection
          (Field alias name args ds ss p)
      unfolding field
      field_found alias name args ds ss p = span_found (λ q. Field alias name args ds ss q) p (found_as row_left
          (seq_past _ (back_takes (λ us w. word_takes S us name w)) (name_found alias name)
          (both_before (arguments_before S (of Colon) args (λ w. refl) (λ rest g. g))
          (both_before (directives_before S (of Colon) ds (λ w. refl) (λ rest g. g))
          (optional_set_before (of Colon) ss (λ w. refl) (λ rest g. g.colon))))
          (seq_found _ (optional_arguments S n args)
          (both_before (directives_before S (of ParenOpen) ds (λ w. refl) (λ rest g. g))
          (optional_set_before (of ParenOpen) ss (λ w. refl) (λ rest g. g.paren)))
          (seq_found _ (directives_found S n ds) (optional_set_after_directives ss) (found_if (λ rest g. g.curly)
          (optional_set_last (λ s q. Field alias name args ds s q) ss))))))

  pub selection_found : (n : ℕ) (s : Selection C)
      → Finds n (symbol_at S n (Selection C) a_selection) (IsSelection S s) AfterSelection s
  unfolding symbol_at any_selection
  selection_found zero s = record { at = λ ts rest le h g. absurd (omega arith) }
  selection_found (suc n) (Field alias name args ds ss p) =
      look_apart (of Ellipsis) _ (starts_before (of Ellipsis) (λ w. refl) (λ ts h. field_starts alias name ts h.0))
      (field_found n (selection_found n) alias name args ds ss p)
  selection_found (suc n) (FragmentSpread name ds p) =
      look_found Ellipsis _ (λ ts h. front_starts is_starts ts h.0) (spread_found n (selection_found n) name ds p)
  selection_found (suc n) (InlineFragment condition ds ss p) =
      look_found Ellipsis _ (λ ts h. front_starts is_starts ts h.0)
      (condition_found n (selection_found n) condition ds ss p)

  -- ---- definitions

  definition_apart : (d : Definition C) → Before (IsDefinition S d) Any (NotAt (of EndOfFile))
  definition_apart (Operation type name vars ds ss p) = record { at = λ ts rest h g. cases ts rest h.0 }
    where
      cases : (ts rest : List Lexeme)
          → (IsSelectionSet S ss ts × (type ≡ Query) × (name ≡ None) × (vars ≡ None) × (ds ≡ None))
          ⊎ (Says (operation_name type) · Optional IsWord name · Optional (IsVariables S) vars
          · IsDirectives S ds · IsSelectionSet S ss) ts
          → NotAt (of EndOfFile) (ts ++ rest)
      cases ts rest (inl h) = rw (set_starts ts ss h.0).3
      cases ts rest (inr h) = rw (front_starts says_starts ts h).3
  definition_apart (Fragment name condition ds ss p) =
      starts_before (of EndOfFile) (λ w. refl) (λ ts h. front_starts says_starts ts h.0)

  module _ (n : ℕ) where
    short_found : (ss : Selections C)
        → Finds n (reads S n definition_parts) (IsSelectionSet S ss) Any (λ p. Operation Query None None None ss p)
    unfolding shorthand
    short_found ss = on_apart operation_word _ (set_before operation_word ss (λ w. refl))
        (on_apart (word (codes "fragment")) _ (set_before {After = Any} (word (codes "fragment")) ss (λ w. refl))
        (map_found (λ s q. Operation Query None None None s q) (set_found n (selection_found n) ss)))

    bare_found : (type : OperationType) (name : Option Word) (vars : Option (Variables C)) (ds : Directives C)
        (ss : Selections C)
        → Finds n (reads S n definition_parts)
        (λ ts. IsSelectionSet S ss ts × (type ≡ Query) × (name ≡ None) × (vars ≡ None) × (ds ≡ None)) Any
        (λ p. Operation type name vars ds ss p)
    bare_found type name vars ds ss = record {
      at = λ ts rest le h g. rw (h.1, h.2, h.3, h.4) ((short_found ss).at ts rest le h.0 tt);
    }

    optional_name_found : (name : Option Word)
        → Finds n (reads S n optional_name) (Optional IsWord name) (NotAt (of Name)) name
    optional_name_found None = look_apart (of Name) _ (nothing_before (λ rest g. g)) done_found
    optional_name_found (Some w) = look_found Name _ (λ ts h. word_starts ts w h)
        (map_found (λ t. Some (word_of t)) (word_found w))

    operation_found : (type : OperationType) (name : Option Word) (vars : Option (Variables C)) (ds : Directives C)
        (ss : Selections C)
        → Finds n (reads S n definition_parts)
        (Says (operation_name type) · Optional IsWord name · Optional (IsVariables S) vars
        · IsDirectives S ds · IsSelectionSet S ss) Any (λ p. Operation type name vars ds ss p)
    unfolding operation optional_variables
    operation_found type name vars ds ss = says_found (λ p.
        on_found operation_word (token Name (operation_name type) p) _ _ (operation_test type p)
        (found_is (ap (λ t q. Operation t name vars ds ss q) (operation_is type))
        (seq_found _ (optional_name_found name)
        (both_before (variables_before S (of Name) vars (λ w. refl) (λ rest h. h))
        (tail_before (of Name) ds ss (λ w. refl) (λ w. refl)))
        (seq_found _ (maybe_found ParenOpen vars (variables_start S) (variables_found S n))
        (tail_before (of ParenOpen) ds ss (λ w. refl) (λ w. refl))
        (body_found n (selection_found n)
        (λ x s q. Operation (operation_of (operation_name type)) name vars x s q) ds ss)))))

    fragment_found : (name condition : Word) (ds : Directives C) (ss : Selections C)
        → Finds n (reads S n definition_parts)
        (Says (codes "fragment") · IsFragmentName S name · IsTypeCondition S condition
        · IsDirectives S ds · IsSelectionSet S ss) Any (λ p. Fragment name condition ds ss p)
    unfolding fragment
    fragment_found name condition ds ss = says_found (λ p.
        on_apart operation_word _ (front_before (only_before operation_word refl))
        (on_found (word (codes "fragment")) (token Name (codes "fragment") p) _ _ refl
        (fragment_name_found name (λ d. then_found _ (map_found word_of
        (want_found other_than_on (token Name name.item name.span) (ap not (text_other name.item (codes "on") d))))
        (then_found _ (says_found (λ q. then_found _ (want_found (word (codes "on")) (token Name (codes "on") q) refl)
        (map_found word_of (word_found condition))))
        (body_found n (selection_found n) (λ x s q. Fragment name condition x s q) ds ss))))))

    definition_found : (d : Definition C) → Finds n (reads S n definition) (IsDefinition S d) Any d
    unfolding definition
    definition_found (Operation type name vars ds ss p) =
        span_found (λ q. Operation type name vars ds ss q) p
        (either_found (bare_found type name vars ds ss) (operation_found type name vars ds ss))
    definition_found (Fragment name condition ds ss p) =
        span_found (λ q. Fragment name condition ds ss q) p (fragment_found name condition ds ss)

    pub document_found : (ts : List Lexeme) (ds : List (Definition C)) → length ts < n → IsDocument S ds ts
        → reads S n document ts ≡ Took ds []
    unfolding document
    document_found ts [] le h = absurd (h.first.1 refl)
    document_found ts (d ∷ ds) le h = ap (reads S n document) (sym (append-nil ts))
        ∙ (closed_found (λ w p. several_found EndOfFile (definition_takes S) definition_found definition_apart
        (λ x. any_before) (λ v q rest. tt) w p (λ y r. y ∷ r.0) d ds)).at ts [] le
        (row_front (λ us k. k.0) ts h) tt
