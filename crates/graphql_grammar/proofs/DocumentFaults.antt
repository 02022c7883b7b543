-- The readers of values, types and documents tell where a scalar token is refused as such.
use Rattle.std.proofs.Common.{ℕ, zero, suc, Bool, true, false, ◌≡◌, ◌∷◌, [], List, refl, sym, ap, ◌∙◌, subst, inl, inr, Result, Ok, Err, codes, Option, Some, None}
use Rattle.graphql_lexical.specs.declared.kind.Kind.{Kind}
use Rattle.graphql_lexical.specs.declared.kind.Kind.TheVariants.{Name, String, BlockString, Float, Int, ExclamationMark, Dollar, ParenOpen, ParenClose, BracketOpen, BracketClose, CurlyOpen, CurlyClose, Ellipsis, Colon, Equals, At, EndOfFile}
use Rattle.graphql_lexical.specs.Cutting.{Lexeme}
use Rattle.graphql_grammar.specs.Tokens.{Located, Word, word_of}
use Rattle.graphql_grammar.specs.device.Reading.{passes, of, word, Reader, seq, done, fault_of, refuse, pick, on, literal, scalar_token, a_value, a_type, a_selection}
use Rattle.graphql_grammar.specs.device.Productions as productions
use Rattle.graphql_grammar.specs.device.Productions.{key_and_value, variable_start, named_type, list_type, nullable_type, non_null, other_than_on, argument, arguments_inner, arguments, optional_arguments, directive, directives, default, variable_definition, variables_inner, variables, optional_variables, selections_inner, selection_set, optional_set, names, field, named_spread, inline_parts, inline, typed, spread, any_selection, operation_word, operation, fragment, shorthand, definition, document, symbol_at, reads}
use Rattle.graphql_grammar.specs.Tree.{Scalars, Value, TypeRef}
use Rattle.graphql_grammar.specs.declared.operation.OperationType.{OperationType}
use Rattle.graphql_grammar.specs.Grammar.{IsScalarKind}
use Rattle.graphql_grammar.proofs.TokenRules.{on_failed}
use Rattle.graphql_grammar.proofs.TokenTests.{is_scalar_kind}
use Rattle.graphql_grammar.proofs.Values.{literal_ok, literal_bad, literal_other}
use Rattle.graphql_grammar.proofs.Found.{at_literal_kind}
use Rattle.graphql_grammar.proofs.NoValues.{Exchange, Starts, Stops, no_value_by, no_value_by_word, no_value_by_other, no_value_by_operation}
use Rattle.graphql_grammar.proofs.ScalarFaults.{TellsFault, TellsFaults, same_tell, same_tells, weak, done_tells, refuse_tells, refuse_tells, seq_tell, seq_tells, map_tells, push, on_at, on_turns_by, no_curly, on_tells, want_on, look_on, want_type, want_tells, kind_tells, look_tells, span_tells, out_tells, many_tells, one_or_more_tells, repeated_tells, maybe_tells}

module _ {C F : Type 0} (S : Scalars C F) where
  -- values
  literal_tell : (h : Reader F (Located (Value C))) (t : Lexeme) (ts : List Lexeme) (z : Result C F)
      → passes scalar_token t ≡ true → S.read t.kind t.text ≡ z → ((us : List Lexeme) → h (t ∷ us) ≡ literal S (t ∷
      us))
      → TellsFault S true h (t ∷ ts) (h (t ∷ ts))
  literal_tell h t ts (Ok c) e q same = subst (λ r. TellsFault S true h (t ∷ ts) r)
      (sym (same ts ∙ literal_ok S t ts c e q)) (t ∷ [], refl, λ other x. same other ∙ literal_ok S t other c e q)
  literal_tell h t ts (Err x) e q same = subst (λ r. TellsFault S true h (t ∷ ts) r)
      (sym (same ts ∙ literal_bad S t ts x e q)) ([], refl, inl (x, refl, is_scalar_kind t e, q))

  value_literal : (free : Bool) (n : ℕ) (t : Lexeme) → IsScalarKind t.kind → (us : List Lexeme)
      → symbol_at S (suc n) _ (a_value free) (t ∷ us) ≡ literal S (t ∷ us)
  value_literal free n t (inl e) us = at_literal_kind S free n t us String e refl refl refl refl
  value_literal free n t (inr (inl e)) us = at_literal_kind S free n t us BlockString e refl refl refl refl
  value_literal free n t (inr (inr (inl e))) us = at_literal_kind S free n t us Float e refl refl refl refl
  value_literal free n t (inr (inr (inr e))) us = at_literal_kind S free n t us Int e refl refl refl refl

  not_scalar : (t : Lexeme) → passes scalar_token t ≡ false → IsScalarKind t.kind → ⊥
  not_scalar t e (inl s) = absurd (cc (sym e ∙ ap (λ (k : Kind). scalar_token k t.text) s))
  not_scalar t e (inr (inl s)) = absurd (cc (sym e ∙ ap (λ (k : Kind). scalar_token k t.text) s))
  not_scalar t e (inr (inr (inl s))) = absurd (cc (sym e ∙ ap (λ (k : Kind). scalar_token k t.text) s))
  not_scalar t e (inr (inr (inr s))) = absurd (cc (sym e ∙ ap (λ (k : Kind). scalar_token k t.text) s))

  other_literal : (t : Lexeme) (ts : List Lexeme) → passes scalar_token t ≡ false
      → TellsFault S true (literal S) (t ∷ ts) (literal S (t ∷ ts))
  other_literal t ts e = subst (λ z. TellsFault S true (literal S) (t ∷ ts) z) (sym (literal_other S t ts e))
      (same_tell S true refuse (literal S) (t ∷ ts) (refuse (t ∷ ts)) by_head (λ c. no_curly S c)
      ((refuse_tells S true).at (t ∷ ts)))
    where
      by_head : (other : List Lexeme) → Exchange (t ∷ ts) other → literal S other ≡ refuse other
      by_head [] x = absurd x
      by_head (u ∷ us) (inl x) = literal_other S u us (ap (passes scalar_token) x ∙ e)
      by_head (u ∷ us) (inr x) = absurd (not_scalar t e x.0)

  last_other : (t : Lexeme) (ts : List Lexeme) → passes scalar_token t ≡ false
      → TellsFault S true (seq (literal S) done) (t ∷ ts) (seq (literal S) (λ v. done v) (t ∷ ts))
  unfolding seq
  last_other t ts e = seq_tell S true (literal S) _ (t ∷ ts) (literal S (t ∷ ts)) (other_literal t ts e)
      (λ v. done_tells S true v)

  module _ (free : Bool) (n : ℕ) (r : TellsFaults S true (symbol_at S n _ (a_value free))) where
    field_tells : TellsFaults S true (reads S n (key_and_value free))
    unfolding key_and_value
    field_tells = kind_tells S Name refl _ (λ k. kind_tells S Colon refl _ (λ c. map_tells S _ _ r))

    value_one : (t : Lexeme) (ts : List Lexeme) (v : Bool) → passes scalar_token t ≡ v
        → TellsFault S true (symbol_at S (suc n) _ (a_value free)) (t ∷ ts)
        (symbol_at S (suc n) _ (a_value free) (t ∷ ts))
    unfolding symbol_at productions.value productions.list productions.object productions.variable
    value_one t ts true e = literal_tell (symbol_at S (suc n) _ (a_value free)) t ts (S.read t.kind t.text) e refl
        (value_literal free n t (is_scalar_kind t e))
    value_one t ts false e =
        on_at S true (of BracketOpen) _ _ t ts (passes (of BracketOpen) t) refl (λ s. absurd (not_scalar t e s))
        (λ c. no_curly S c) (λ u q. weak S _
        (map_tells S _ _ (many_tells S (of BracketClose) _ n (no_value_by BracketClose refl) r)))
        (on_at S true (of CurlyOpen) _ _ t ts (passes (of CurlyOpen) t) refl (λ s. absurd (not_scalar t e s))
        (λ c. no_curly S c) (λ u q. weak S _
        (map_tells S _ _ (many_tells S (of CurlyClose) _ n (no_value_by CurlyClose refl) field_tells)))
        (on_at S true (variable_start free) _ _ t ts (passes (variable_start free) t) refl
        (λ s. absurd (not_scalar t e s))
        (λ c. no_curly S c) (λ u q. weak S _ (kind_tells S Name refl _ (λ x. done_tells S true _)))
        (on_at S true (of Name) _ _ t ts (passes (of Name) t) refl (λ s. absurd (not_scalar t e s)) (λ c. no_curly S c)
        (λ u q. done_tells S false _)
        (last_other t ts e))))

    value_list : (ts : List Lexeme)
        → TellsFault S true (symbol_at S (suc n) _ (a_value free)) ts (symbol_at S (suc n) _ (a_value free) ts)
    unfolding symbol_at productions.value on literal seq
    value_list [] = tt
    value_list (t ∷ ts) = value_one t ts (passes scalar_token t) refl

  pub value_tells : (free : Bool) (n : ℕ) → TellsFaults S true (symbol_at S n _ (a_value free))
  unfolding symbol_at
  value_tells free zero = out_tells S (symbol_at S zero _ (a_value free)) (λ ts. refl)
  value_tells free (suc n) = record { at = value_list free n (value_tells free n) }

  -- types
  bracket_on : {A : Type 0} (k : Lexeme → Reader F A) (ts : List Lexeme) → ((u : Lexeme) → TellsFaults S false (k u))
      → TellsFault S false (on (of BracketOpen) k refuse) ts (on (of BracketOpen) k refuse ts)
  unfolding on refuse
  bracket_on k [] hk = tt
  bracket_on {A} k (t ∷ ts) hk = by_test (passes (of BracketOpen) t) refl
    where
      by_test : (b : Bool) → passes (of BracketOpen) t ≡ b
          → TellsFault S false (on (of BracketOpen) k refuse) (t ∷ ts) (pick b k refuse t ts)
      by_test true e = push S false (of BracketOpen) k refuse t ts (k t ts) e ((hk t).at ts)
      by_test false e = ([], refl, inr (refl, λ s. inr ((λ c. absurd (cc c)), λ rest st. by_rest rest st)))
        where
          by_rest : (rest : List Lexeme) → Starts CurlyOpen rest → Stops (on (of BracketOpen) k refuse) [] rest
          by_rest [] st = absurd st
          by_rest (u ∷ us) st = (
            fault_of u.kind u.text,
            on_failed (of BracketOpen) k refuse u us
                (ap (λ (z : Kind). of BracketOpen z u.text) st),
          )

  -- Types hold no scalar, so their reader may be of any scalar type.
  module _ {D : Type 0} (T : Scalars D F) where
    -- a name, or a bracket and a type: `{` is refused
    nullable_tells : (n : ℕ) → TellsFaults S false (symbol_at T n _ a_type)
        → TellsFaults S false (reads T n nullable_type)
    unfolding nullable_type named_type list_type
    nullable_tells n r = same_tells S false (on (of Name) _ _) _ (look_on S (of Name) _ _)
        (on_turns_by S false (of Name) _ _ (no_value_by Name refl) (λ c w. refl) (λ u e. done_tells S false _)
        (same_tells S false (on (of BracketOpen) _ refuse) _ (want_on S (of BracketOpen) _)
        (record {
          at = λ ts. bracket_on _ ts (λ o. seq_tells S false _ _ r
              (λ x. kind_tells S BracketClose refl _ (λ c. done_tells S true _)));
        })))

    non_null_tells : (n : ℕ) (x : Located TypeRef) → TellsFaults S true (reads T n (non_null x))
    unfolding non_null
    non_null_tells n x = on_tells S (of ExclamationMark) _ _ (no_value_by ExclamationMark refl)
        (λ u. done_tells S true _) (done_tells S true _)

    pub type_tells : (n : ℕ) → TellsFaults S false (symbol_at T n _ a_type)
    unfolding symbol_at productions.type
    type_tells zero = record { at = λ ts. tt }
    type_tells (suc n) = seq_tells S false _ _ (nullable_tells n (type_tells n)) (λ x. non_null_tells n x)

  -- documents
  module _ (n : ℕ) where
    argument_tells : TellsFaults S true (reads S n argument)
    unfolding argument
    argument_tells = kind_tells S Name refl _ (λ k. kind_tells S Colon refl _ (λ c.
        map_tells S _ _ (value_tells true n)))

    arguments_tells : TellsFaults S true (reads S n optional_arguments)
    unfolding optional_arguments arguments arguments_inner
    arguments_tells = maybe_tells S (of ParenOpen) _ (no_value_by ParenOpen refl)
        (span_tells S true _ (kind_tells S ParenOpen refl _ (λ o.
        map_tells S _ _ (one_or_more_tells S (of ParenClose) _ n (no_value_by ParenClose refl) argument_tells))))

    directive_tells : TellsFaults S true (reads S n directive)
    unfolding directive
    directive_tells = span_tells S true _ (kind_tells S At refl _ (λ a. kind_tells S Name refl _ (λ t.
        map_tells S _ _ arguments_tells)))

    directives_tells : TellsFaults S true (reads S n directives)
    unfolding directives
    directives_tells = map_tells S _ _ (repeated_tells S (of At) _ n (no_value_by At refl) directive_tells)

    default_tells : TellsFaults S true (reads S n default)
    unfolding default
    default_tells = look_tells S (of Equals) _ _ (no_value_by Equals refl)
        (kind_tells S Equals refl _ (λ e. map_tells S _ _ (value_tells false n))) (done_tells S true _)

    -- after the colon a type, which refuses `{`
    variable_tells : TellsFaults S true (reads S n variable_definition)
    unfolding variable_definition
    variable_tells = kind_tells S Dollar refl _ (λ d. kind_tells S Name refl _ (λ t.
        want_type S (of Colon) _ (no_value_by Colon refl) (λ c. seq_tells S false _ _ (type_tells S n) (λ x.
        seq_tells S true _ _ default_tells (λ v. map_tells S _ _ directives_tells)))))

    variables_tells : TellsFaults S true (reads S n optional_variables)
    unfolding optional_variables variables variables_inner
    variables_tells = maybe_tells S (of ParenOpen) _ (no_value_by ParenOpen refl)
        (span_tells S true _ (kind_tells S ParenOpen refl _ (λ o.
        map_tells S _ _ (one_or_more_tells S (of ParenClose) _ n (no_value_by ParenClose refl) variable_tells))))

    names_tell : TellsFaults S true (reads S n names)
    names_tell = kind_tells S Name refl _ (λ a. on_tells S (of Colon) _ _ (no_value_by Colon refl)
        (λ c. kind_tells S Name refl _ (λ t. done_tells S true _)) (done_tells S true _))

    module _ (r : TellsFaults S true (symbol_at S n _ a_selection)) where
      set_tells : TellsFaults S true (reads S n selection_set)
      unfolding selection_set selections_inner
      set_tells = kind_tells S CurlyOpen refl _ (λ o.
          map_tells S _ _ (one_or_more_tells S (of CurlyClose) _ n (no_value_by CurlyClose refl) r))

      field_tells_by : TellsFaults S true (reads S n field)
      unfolding field optional_set
      field_tells_by = span_tells S true _ (seq_tells S true _ _ names_tell (λ h.
          seq_tells S true _ _ arguments_tells (λ xs. seq_tells S true _ _ directives_tells (λ ds.
          map_tells S _ _ (maybe_tells S (of CurlyOpen) _ (no_value_by CurlyOpen refl) set_tells)))))

      parts_tell : TellsFaults S true (reads S n inline_parts)
      unfolding inline_parts
      parts_tell = seq_tells S true _ _ directives_tells (λ ds. map_tells S _ _ set_tells)

      inline_tells : (w : Option Word) → TellsFaults S true (reads S n (inline w))
      unfolding inline
      inline_tells w = map_tells S _ _ parts_tell

      spread_tells : TellsFaults S true (reads S n spread)
      unfolding spread typed named_spread
      spread_tells = span_tells S true _ (kind_tells S Ellipsis refl _ (λ e. on_tells S (word (codes "on")) _ _
          (no_value_by_word (codes "on"))
          (λ o. kind_tells S Name refl _ (λ t. inline_tells (Some (word_of t))))
          (on_tells S other_than_on _ _ no_value_by_other (λ t. map_tells S _ _ directives_tells)
          (inline_tells None))))

  selection_tells : (n : ℕ) → TellsFaults S true (symbol_at S n _ a_selection)
  unfolding symbol_at any_selection
  selection_tells zero = out_tells S (symbol_at S zero _ a_selection) (λ ts. refl)
  selection_tells (suc n) = look_tells S (of Ellipsis) _ _ (no_value_by Ellipsis refl)
      (spread_tells n (selection_tells n)) (field_tells_by n (selection_tells n))

  module _ (n : ℕ) where
    body_tells : TellsFaults S true (reads S n inline_parts)
    body_tells = parts_tell n (selection_tells n)

    operation_tells : (o : OperationType) → TellsFaults S true (reads S n (operation o))
    unfolding operation
    operation_tells o = seq_tells S true _ _ (look_tells S (of Name) _ _ (no_value_by Name refl)
        (kind_tells S Name refl _ (λ t. done_tells S true _)) (done_tells S true _))
        (λ name. seq_tells S true _ _ (variables_tells n) (λ vars. map_tells S _ _ body_tells))

    fragment_tells : TellsFaults S true (reads S n fragment)
    unfolding fragment
    fragment_tells = seq_tells S true _ _ (want_tells S other_than_on _ no_value_by_other (λ a. done_tells S true _))
        (λ name. seq_tells S true _ _ (want_tells S (word (codes "on")) _ (no_value_by_word (codes "on"))
        (λ o. kind_tells S Name refl _ (λ t. done_tells S true _)))
        (λ t. map_tells S _ _ body_tells))

    definition_tells : TellsFaults S true (reads S n definition)
    unfolding definition shorthand
    definition_tells = span_tells S true _
        (on_tells S operation_word _ _ no_value_by_operation (λ w. operation_tells _)
        (on_tells S (word (codes "fragment")) _ _ (no_value_by_word (codes "fragment")) (λ w. fragment_tells)
        (map_tells S _ _ (set_tells n (selection_tells n)))))

    pub document_tells : TellsFaults S true (reads S n document)
    unfolding document
    document_tells = seq_tells S true _ _ definition_tells (λ x.
        map_tells S _ _ (many_tells S (of EndOfFile) _ n (no_value_by EndOfFile refl) definition_tells))
