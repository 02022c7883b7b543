-- What the readings of types, fields and definitions keep.
use Rattle.std.proofs.Common.{ℕ, zero, suc, true, false, ◌≡◌, ◌≤◌, ◌<◌, ◌∷◌, [], List, ◌++◌, length, refl, sym, ap, ◌∙◌, subst, arith, append-nil, zero-le, le_refl, inl, Option, Some, None}
use Rattle.graphql_lexical.specs.Place.{Span}
use Rattle.graphql_lexical.specs.declared.kind.Kind.{Kind}
use Rattle.graphql_lexical.specs.declared.kind.Kind.TheVariants.{Name, ExclamationMark, Dollar, ParenOpen, ParenClose, BracketOpen, BracketClose, Colon, Equals, At}
use Rattle.graphql_lexical.specs.Cutting.{Lexeme}
use Rattle.graphql_grammar.specs.Tokens.{Text, Located, word_of, over, from_to, span_of}
use Rattle.graphql_grammar.specs.Samples.{sample, sample_text}
use Rattle.graphql_grammar.specs.device.Reading.{passes, of, a_value, a_type}
use Rattle.graphql_grammar.specs.device.Productions.{named_type, list_type, nullable_type, non_null, type, argument, arguments_inner, arguments, optional_arguments, directive, directives_of, directives, default, variable_definition, variables_inner, variables, optional_variables, symbol_at, reads}
use Rattle.graphql_grammar.specs.Tree.{Scalars, TypeRef, NamedType, ListType, NonNullType, Argument, Directive, VariableDefinition}
use Rattle.graphql_grammar.specs.Grammar.{IsLocated, Over, IsValue, Optional, Listed, IsType, IsArgument, IsArguments, IsDirective, IsDirectives, IsDefault, IsVariableDefinition, IsVariables, Each}
use Rattle.graphql_grammar.proofs.Rules.{less, Rule, Some_of, done_rule}
use Rattle.graphql_grammar.proofs.TokenRules.{on_rule, look_rule}
use Rattle.graphql_grammar.proofs.PartRules.{span_rule, maybe_rule, one_or_more_rule, repeated_rule, step, want_step, lower, ClosedSome}
use Rattle.graphql_grammar.proofs.Sequences.{row, enclosed, kind_is, word_is, says_is, one_takes, is_takes, says_takes, front_takes, back_takes, last_joined, over_enclosed}
use Rattle.graphql_grammar.proofs.TokenTests.{of_kind}
use Rattle.graphql_grammar.proofs.Values.{value_rule}

-- Types

-- not closed by an exclamation mark
abbrev pub IsNullable : TypeRef → Type 0
IsNullable type = (inner : TypeRef) → type ≡ NonNullType inner → ⊥

pub name_nullable : (name : Text) → IsNullable (NamedType name)
name_nullable name inner e = absurd (cc)

pub list_nullable : (size : Option ℕ) (type : TypeRef) → IsNullable (ListType size type)
list_nullable size type inner e = absurd (cc)

abbrev pub IsSpannedType : Located TypeRef → List Lexeme → Type 0
IsSpannedType x = Over x.span (IsType x.item)

abbrev IsNullableType : Located TypeRef → List Lexeme → Type 0
IsNullableType x ts = IsSpannedType x ts × IsNullable x.item

pub type_takes : (ts : List Lexeme) (type : TypeRef) → IsType type ts → 0 < length ts
type_takes ts (NamedType name) h = says_takes name ts h
type_takes ts (ListType size of_type) h = front_takes (is_takes BracketOpen) ts h.0
type_takes ts (NonNullType of_type) h = back_takes (is_takes ExclamationMark) ts h.0

-- the span of some tokens and one more
pub span_before : (us : List Lexeme) (t : Lexeme) (p : Span) → 0 < length us → p ≡ span_of us
    → from_to p t.span ≡ span_of (us ++ (t ∷ []))
span_before [] t p h e = absurd (omega arith)
span_before (u ∷ us) t p h e = ap (λ (s : Span). from_to s t.span) e ∙ ap (over u) (sym (last_joined u t us []))

some_type : Some_of IsSpannedType
some_type = (
  sample Name ∷ [],
  record { item = NamedType (sample_text Name); span = span_of (sample Name ∷ []) },
  (says_is _ (sample Name) refl refl, refl),
  (inl refl, tt),
)

module _ {C F : Type 0} (S : Scalars C F) where
  nullable_rule : (n m : ℕ) → Rule n (symbol_at S n _ a_type) (symbol_at S m _ a_type) IsSpannedType
      → Rule (suc n) (reads S n nullable_type) (reads S m nullable_type) IsNullableType
  unfolding nullable_type named_type list_type
  nullable_rule n m r = look_rule (suc n) (of Name) _ _ _ _ IsNullableType
      (want_step (suc n) (of Name) (sample Name) _ _ IsNullableType refl (inl refl)
      (λ t u p. done_rule n (record { item = NamedType t.text; span = t.span }) (record { item = NamedType u.text; span = u.span }) _
      ((says_is t.text t (of_kind Name t p) refl, refl), name_nullable t.text)))
      (want_step (suc n) (of BracketOpen) (sample BracketOpen) _ _ IsNullableType refl (inl refl)
      (λ o o' p. step n n _ _ _ _ IsSpannedType _ (le_refl n) r (λ us x y h.
      want_step (less n us) (of BracketClose) (sample BracketClose) _ _ _ refl (inl refl) (λ c c' q.
      done_rule _ (record { item = ListType None x.item; span = over o c }) (record { item = ListType None y.item; span = over o' c' }) _ (
        (
          (enclosed BracketOpen BracketClose o c us (of_kind BracketOpen o p) (of_kind BracketClose c q) h.0, refl),
          over_enclosed o c us,
        ),
        list_nullable None x.item,
      )))))

  pub type_rule : (n m : ℕ) → n ≤ m → Rule n (symbol_at S n _ a_type) (symbol_at S m _ a_type) IsSpannedType
  unfolding symbol_at type non_null
  type_rule zero m le = record { at = λ ts. (zero-le, [], ts, refl, some_type) }
  type_rule (suc n) zero le = absurd (omega arith)
  type_rule (suc n) (suc m) le = step (suc n) (suc n) _ _ _ _ IsNullableType IsSpannedType
      (le_refl (suc n)) (nullable_rule n m (type_rule n m (omega arith))) (λ us x y h.
      on_rule (less (suc n) us) (of ExclamationMark) _ _ _ _ _
      (λ b b' p. done_rule _ (record { item = NonNullType x.item; span = from_to x.span b.span }) (record { item = NonNullType y.item; span = from_to y.span b'.span }) _ (
        (row us (b ∷ []) h.0.0 (kind_is ExclamationMark b (of_kind ExclamationMark b p)), h.1),
        span_before us b x.span (type_takes us x.item h.0.0) h.0.1,
      ))
      (done_rule _ x y _ (rw append-nil h.0)))

-- Directives
module _ {C F : Type 0} (S : Scalars C F) (n m : ℕ) (le : n ≤ m) where
  pub low1 : (us : List Lexeme) → less n us ≤ n
  low1 us = lower n n us (le_refl n)

  pub low2 : (us vs : List Lexeme) → less (less n us) vs ≤ n
  low2 us vs = lower n (less n us) vs (low1 us)

  pub low3 : (us vs ws : List Lexeme) → less (less (less n us) vs) ws ≤ n
  low3 us vs ws = lower n _ ws (low2 us vs)

  pub low4 : (us vs ws xs : List Lexeme) → less (less (less (less n us) vs) ws) xs ≤ n
  low4 us vs ws xs = lower n _ xs (low3 us vs ws)

  pub low5 : (us vs ws xs ys : List Lexeme) → less (less (less (less (less n us) vs) ws) xs) ys ≤ n
  low5 us vs ws xs ys = lower n _ ys (low4 us vs ws xs)

  -- Arguments and directives
  pub argument_rule : Rule n (reads S n argument) (reads S m argument) (IsArgument S)
  unfolding argument
  argument_rule = want_step n (of Name) (sample Name) _ _ _ refl (inl refl)
      (λ k k' p. want_step _ (of Colon) (sample Colon) _ _ _ refl (inl refl) (λ c c' q.
      step n _ (symbol_at S n _ (a_value true)) (symbol_at S m _ (a_value true)) _ _ (IsLocated (IsValue S true)) _
      (low2 (k ∷ []) (c ∷ [])) (value_rule S true n m le) (λ us v w h.
      done_rule _ (record { name = word_of k; value = v }) (record { name = word_of k'; value = w }) _
      (rw append-nil (row (k ∷ []) (c ∷ us) (word_is k (of_kind Name k p))
      (row (c ∷ []) us (kind_is Colon c (of_kind Colon c q)) h))))))

  pub argument_takes : (ts : List Lexeme) (a : Argument C) → IsArgument S a ts → 0 < length ts
  argument_takes ts a h = front_takes (λ us w. one_takes us _ w) ts h

  pub listed : {A : Type 0} (opening closing : Kind) (R : A → List Lexeme → Type 0) (t : Lexeme) (us : List Lexeme)
      (xs : List A) → passes (of opening) t ≡ true → ClosedSome (of closing) R xs us
      → Listed opening closing R xs (t ∷ us)
  listed opening closing R t us [] p c = absurd c
  listed opening closing R t us (x ∷ xs) p c = subst (λ l. Listed opening closing R (x ∷ xs) (t ∷ l)) (sym c.whole)
      (enclosed opening closing t c.last c.inner (of_kind opening t p) (of_kind closing c.last c.closes)
      (c.each, λ e. absurd (cc)))

  pub arguments_rule : Rule n (reads S n arguments) (reads S m arguments) (IsArguments S)
  unfolding arguments arguments_inner
  arguments_rule = span_rule n _ _ (IsArguments S) (want_step n (of ParenOpen) (sample ParenOpen) _ _ _ refl (inl refl)
      (λ o o' p.
      step n _ _ _ _ _ (ClosedSome (of ParenClose) (IsArgument S)) _ (low1 (o ∷ []))
      (one_or_more_rule (IsArgument S) argument_takes (of ParenClose) (sample ParenClose) refl (inl refl) _ _ n m le
      argument_rule) (λ us xs ys h.
      done_rule _ (λ p. record { item = xs; span = p }) (λ p. record { item = ys; span = p }) _
      (rw append-nil (listed ParenOpen ParenClose (IsArgument S) o us xs p h, refl)))))

  pub optional_arguments_rule : Rule n (reads S n optional_arguments) (reads S m optional_arguments)
      (Optional (IsArguments S))
  unfolding optional_arguments
  optional_arguments_rule = maybe_rule n (of ParenOpen) _ _ (IsArguments S) arguments_rule

  pub directive_rule : Rule n (reads S n directive) (reads S m directive) (IsLocated (IsDirective S))
  unfolding directive
  directive_rule = span_rule n _ _ (IsLocated (IsDirective S)) (want_step n (of At) (sample At) _ _ _ refl (inl refl)
      (λ a a' p. want_step _ (of Name) (sample Name) _ _ _ refl (inl refl) (λ t t' q.
      step n _ _ _ _ _ (Optional (IsArguments S)) _ (low2 (a ∷ []) (t ∷ [])) optional_arguments_rule (λ us xs ys h.
      done_rule _ (λ p. record { item = record { name = word_of t; arguments = xs }; span = p })
      (λ p. record { item = record { name = word_of t'; arguments = ys }; span = p }) _
      (rw append-nil (
        row (a ∷ []) (t ∷ us) (kind_is At a (of_kind At a p))
            (row (t ∷ []) us (word_is t (of_kind Name t q)) h),
        refl,
      ))))))

  pub directive_takes : (ts : List Lexeme) (d : Located (Directive C)) → IsLocated (IsDirective S) d ts → 0 < length ts
  directive_takes ts d h = front_takes (is_takes At) ts h.0

  directives_are : (ts : List Lexeme) (ds : List (Located (Directive C))) → Each (IsLocated (IsDirective S)) ds ts
      → IsDirectives S (directives_of ds) ts
  directives_are ts [] h = h
  directives_are ts (d ∷ ds) h = (h, λ e. absurd (cc))

  pub directives_rule : Rule n (reads S n directives) (reads S m directives) (IsDirectives S)
  unfolding directives
  directives_rule = step n n _ _ _ _ (Each (IsLocated (IsDirective S))) _ (le_refl n)
      (repeated_rule (IsLocated (IsDirective S)) directive_takes (of At) _ _ n m n le (le_refl n) directive_rule) (λ us ds ds' h.
      done_rule _ (directives_of ds) (directives_of ds') _ (rw append-nil (directives_are us ds h)))

  -- Variables
  pub default_rule : Rule n (reads S n default) (reads S m default) (Optional (IsDefault S))
  unfolding default
  default_rule = look_rule n (of Equals) _ _ _ _ (Optional (IsDefault S))
      (want_step n (of Equals) (sample Equals) _ _ _ refl (inl refl) (λ e e' p.
      step n _ (symbol_at S n _ (a_value false)) (symbol_at S m _ (a_value false)) _ _ (IsLocated (IsValue S false)) _
      (low1 (e ∷ [])) (value_rule S false n m le) (λ us v w h.
      done_rule _ (Some v) (Some w) _
      (rw append-nil (row (e ∷ []) us (kind_is Equals e (of_kind Equals e p)) h)))))
      (done_rule n None None (Optional (IsDefault S)) refl)

  pub variable_definition_rule : Rule n (reads S n variable_definition) (reads S m variable_definition)
      (IsVariableDefinition S)
  unfolding variable_definition
  variable_definition_rule =
      want_step n (of Dollar) (sample Dollar) _ _ _ refl (inl refl)
      (λ d d' p. want_step _ (of Name) (sample Name) _ _ _ refl (inl refl)
      (λ t t' q. want_step _ (of Colon) (sample Colon) _ _ _ refl (inl refl) (λ c c' r.
      step n _ _ _ _ _ IsSpannedType _ (low3 (d ∷ []) (t ∷ []) (c ∷ [])) (type_rule S n m le) (λ us x x' h.
      step n _ _ _ _ _ (Optional (IsDefault S)) _ (low4 (d ∷ []) (t ∷ []) (c ∷ []) us)
      default_rule (λ vs v v' k.
      step n _ _ _ _ _ (IsDirectives S) _ (low5 (d ∷ []) (t ∷ []) (c ∷ []) us vs) directives_rule (λ ws ds ds' e.
      done_rule _ (record {
        name = record { item = t.text; span = over d t };
        of_type = x;
        default = v;
        directives = ds;
      })
      (record {
        name = record { item = t'.text; span = over d' t' };
        of_type = x';
        default = v';
        directives = ds';
      }) _
      (rw append-nil (row (d ∷ t ∷ []) (c ∷ us ++ (vs ++ ws))
      (row (d ∷ []) (t ∷ []) (kind_is Dollar d (of_kind Dollar d p)) (says_is t.text t (of_kind Name t q) refl), refl)
      (row (c ∷ []) (us ++ (vs ++ ws)) (kind_is Colon c (of_kind Colon c r))
      (row us (vs ++ ws) h (row vs ws k e)))))))))))

  pub variable_takes : (ts : List Lexeme) (d : VariableDefinition C) → IsVariableDefinition S d ts → 0 < length ts
  variable_takes ts d h = front_takes (λ us v. front_takes (is_takes Dollar) us v.0) ts h

  pub variables_rule : Rule n (reads S n variables) (reads S m variables) (IsVariables S)
  unfolding variables variables_inner
  variables_rule = span_rule n _ _ (IsVariables S) (want_step n (of ParenOpen) (sample ParenOpen) _ _ _ refl (inl refl)
      (λ o o' p.
      step n _ _ _ _ _ (ClosedSome (of ParenClose) (IsVariableDefinition S)) _ (low1 (o ∷ []))
      (one_or_more_rule (IsVariableDefinition S) variable_takes (of ParenClose) (sample ParenClose) refl (inl refl)
      _ _ n m le variable_definition_rule) (λ us xs ys h.
      done_rule _ (λ p. record { item = xs; span = p }) (λ p. record { item = ys; span = p }) _
      (rw append-nil (listed ParenOpen ParenClose (IsVariableDefinition S) o us xs p h, refl)))))

  pub optional_variables_rule : Rule n (reads S n optional_variables) (reads S m optional_variables)
      (Optional (IsVariables S))
  unfolding optional_variables
  optional_variables_rule = maybe_rule n (of ParenOpen) _ _ (IsVariables S) variables_rule
