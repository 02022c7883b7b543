-- How the steps of each production fit a cursor.
use Rattle.std.proofs.Common.{◌≡◌, ◌<◌, ◌&&◌, ◌||◌, not, ℕ, Bool, true, false, List, length, codes, bytes_eq, refl, le_refl, inl}
use Rattle.std.specs.Cmp.{first_so}
use Rattle.graphql_lexical.specs.declared.kind.Kind.{Kind}
use Rattle.graphql_lexical.specs.declared.kind.Kind.TheVariants.{Name, Dollar, ParenOpen, ParenClose, BracketOpen, BracketClose, CurlyOpen, CurlyClose, Colon, Equals, At, Ellipsis, ExclamationMark}
use Rattle.graphql_lexical.specs.Kinds.{same_kind}
use Rattle.graphql_lexical.specs.Cutting.{Lexeme}
use Rattle.graphql_grammar.specs.Samples.{sample, IsSample}
use Rattle.graphql_grammar.specs.Tree.{Scalars}
use Rattle.graphql_grammar.specs.Grammar.{IsLocated, IsValue, IsArgument, IsDirective, IsVariableDefinition, IsSelection}
use Rattle.graphql_grammar.specs.device.Reading.{of, word, passes, a_value, a_selection, Steps, symbol}
use Rattle.graphql_grammar.specs.device.Productions.{reads, optional, several, variable_start, variable, list, key_and_value, object, value, named_type, list_type, nullable_type, non_null, type, argument, arguments_inner, arguments, optional_arguments, directive, directives, default, variable_definition, variables_inner, variables, optional_variables, selections_inner, selection_set, optional_set, names, field, named_spread, inline_parts, inline, typed, other_than_on, spread, any_selection, operation_word, optional_name, operation, fragment, shorthand, definition}
use Rattle.graphql_grammar.proofs.Public.{Rule, value_rule, value_takes, IsField, field_rule, field_takes, argument_rule, argument_takes, directive_rule, directive_takes, variable_definition_rule, variable_takes, selection_rule, selection_takes, closed_answer, each_answer}
use Rattle.juniper_tokens.specs.Errors.{Error}
use Rattle.juniper_parser.proofs.Stepping.{PassesNoEnd, kind_no_end}
use Rattle.juniper_parser.proofs.CursorGoes.{Fits}

-- ---- tests

pub word_no_end : (text : List ℕ) → PassesNoEnd (word text)
word_no_end text t e = kind_no_end Name refl t (first_so (same_kind t.kind Name) (bytes_eq t.text text) e)

pub other_no_end : PassesNoEnd other_than_on
other_no_end t e = kind_no_end Name refl t (first_so (same_kind t.kind Name) (not (bytes_eq t.text (codes "on"))) e)

pub operation_no_end : PassesNoEnd operation_word
operation_no_end t e = kind_no_end Name refl t (by_parts (same_kind t.kind Name) (bytes_eq t.text (codes "query"))
    (bytes_eq t.text (codes "mutation")) (bytes_eq t.text (codes "subscription")) e)
  where
    by_parts : (n q m s : Bool) → (n && q || n && m || n && s) ≡ true → n ≡ true
    by_parts true q m s p = refl
    by_parts false q m s p = absurd (cc p)

dollar_no_end : (free : Bool) → PassesNoEnd (variable_start free)
dollar_no_end true t e = kind_no_end Dollar refl t e
dollar_no_end false t e = absurd (cc e)

dollar_nowhere : (free : Bool) → (free && same_kind At Dollar) ≡ false
dollar_nowhere true = refl
dollar_nowhere false = refl

module _ {C : Type 0} (S : Scalars C Error) where
  several_fits : {A : Type 0} (p : Steps C A) → Fits S p → (R : A → List Lexeme → Type 0)
      → ((n : ℕ) → Rule n (reads S n p) (reads S n p) R) → ((us : List Lexeme) (x : A) → R x us → 0 < length us)
      → (k : Kind) → passes (of k) (sample k) ≡ true → IsSample (sample k) → Fits S (several k p)
  several_fits p fits R rule takes k closes is = (fits, λ x. (closed_answer S p R rule takes k closes is, λ xs q. tt))

  -- a part that may stand there
  optional_fits : {A : Type 0} (p : Steps C A) → Fits S p → (k : Kind) → same_kind At k ≡ false
      → Fits S (optional k p)
  optional_fits p fits k n = (n, (fits, λ a. tt), tt)

  -- ---- values and types

  pub key_and_value_fits : (free : Bool) → Fits S (key_and_value free)
  unfolding key_and_value
  key_and_value_fits free = (kind_no_end Name refl, λ k. (kind_no_end Colon refl, λ c. (tt, λ v. tt)))

  pub value_fits : (free : Bool) → Fits S (value S free)
  unfolding value list object variable
  value_fits free = (
    kind_no_end BracketOpen refl,
    refl,
    (λ o. (
      closed_answer S (symbol (a_value free)) (IsLocated (IsValue S free)) (λ n. value_rule S free n n (le_refl n))
          (value_takes S free) BracketClose refl (inl refl),
      λ vs q. tt,
    )),
    (
      kind_no_end CurlyOpen refl,
      refl,
      (λ o. (
        closed_answer S (key_and_value free) (IsField S free) (λ n. field_rule S free n n (le_refl n))
            (field_takes S free) CurlyClose refl (inl refl),
        λ vs q. tt,
      )),
      (
        dollar_no_end free,
        dollar_nowhere free,
        (λ d. (kind_no_end Name refl, λ w. tt)),
        (kind_no_end Name refl, refl, (λ t. tt), λ v. tt),
      ),
    ),
  )

  pub type_fits : Fits S type
  unfolding type nullable_type named_type list_type non_null
  type_fits = (
    (
      refl,
      (kind_no_end Name refl, λ w. tt),
      (kind_no_end BracketOpen refl, λ o. (tt, λ x. (kind_no_end BracketClose refl, λ c. tt))),
    ),
    λ x. (kind_no_end ExclamationMark refl, refl, (λ m. tt), tt),
  )

  -- ---- arguments

  pub argument_fits : Fits S argument
  unfolding argument
  argument_fits = (kind_no_end Name refl, λ k. (kind_no_end Colon refl, λ c. (tt, λ v. tt)))

  optional_arguments_fits : Fits S optional_arguments
  unfolding optional_arguments arguments arguments_inner
  optional_arguments_fits = optional_fits arguments (
    kind_no_end ParenOpen refl,
    λ o. (
      several_fits argument argument_fits (IsArgument S) (λ n. argument_rule S n n (le_refl n))
          (argument_takes S 0 0 (le_refl 0)) ParenClose refl (inl refl),
      λ xs. tt,
    ),
  ) ParenOpen refl

  -- ---- directives

  pub directive_fits : Fits S directive
  unfolding directive
  directive_fits = (kind_no_end At refl, λ a. (kind_no_end Name refl, λ w. (optional_arguments_fits, λ xs. tt)))

  directives_fits : Fits S directives
  unfolding directives
  directives_fits = (
    each_answer S directive (IsLocated (IsDirective S)) (λ n. directive_rule S n n (le_refl n))
        (directive_takes S 0 0 (le_refl 0)) (of At),
    λ ds. tt,
  )

  -- ---- variable definitions

  default_fits : Fits S default
  unfolding default
  default_fits = (refl, (kind_no_end Equals refl, λ e. (tt, λ v. tt)), tt)

  pub variable_definition_fits : Fits S variable_definition
  unfolding variable_definition
  variable_definition_fits = (
    kind_no_end Dollar refl,
    λ d. (
      kind_no_end Name refl,
      λ w. (
        kind_no_end Colon refl,
        λ c.
            (tt, λ x. (default_fits, λ v. (directives_fits, λ ds. tt))),
      ),
    ),
  )

  optional_variables_fits : Fits S optional_variables
  unfolding optional_variables variables variables_inner
  optional_variables_fits = optional_fits variables (
    kind_no_end ParenOpen refl,
    λ o. (
      several_fits variable_definition variable_definition_fits (IsVariableDefinition S)
          (λ n. variable_definition_rule S n n (le_refl n)) (variable_takes S 0 0 (le_refl 0)) ParenClose refl
          (inl refl),
      λ xs. tt,
    ),
  ) ParenOpen refl

  -- ---- selections

  selection_set_fits : Fits S selection_set
  unfolding selection_set selections_inner
  selection_set_fits = (
    kind_no_end CurlyOpen refl,
    λ o. (
      several_fits (symbol a_selection) tt (IsSelection S) (λ n. selection_rule S n n (le_refl n)) (selection_takes S)
          CurlyClose refl (inl refl),
      λ ss. tt,
    ),
  )

  optional_set_fits : Fits S optional_set
  unfolding optional_set
  optional_set_fits = optional_fits selection_set selection_set_fits CurlyOpen refl

  names_fits : Fits S names
  names_fits = (kind_no_end Name refl, λ a. (kind_no_end Colon refl, refl, (λ c. (kind_no_end Name refl, λ t. tt)), tt))

  field_fits : Fits S field
  unfolding field
  field_fits =
      (names_fits, λ n. (optional_arguments_fits, λ xs. (directives_fits, λ ds. (optional_set_fits, λ ss. tt))))

  inline_parts_fits : Fits S inline_parts
  unfolding inline_parts
  inline_parts_fits = (directives_fits, λ ds. (selection_set_fits, λ ss. tt))

  spread_fits : Fits S spread
  unfolding spread typed inline named_spread
  spread_fits = (
    kind_no_end Ellipsis refl,
    λ e. (
      word_no_end (codes "on"),
      refl,
      (λ o. (kind_no_end Name refl, λ t. (inline_parts_fits, λ b. tt))),
      (other_no_end, refl, (λ t. (directives_fits, λ ds. tt)), (inline_parts_fits, λ b. tt)),
    ),
  )

  pub any_selection_fits : Fits S any_selection
  unfolding any_selection
  any_selection_fits = (refl, spread_fits, field_fits)

  -- ---- definitions

  optional_name_fits : Fits S optional_name
  optional_name_fits = (refl, (kind_no_end Name refl, λ w. tt), tt)

  pub definition_fits : Fits S definition
  unfolding definition operation fragment shorthand
  definition_fits = (
    operation_no_end,
    refl,
    (λ w. (optional_name_fits, λ n. (optional_variables_fits, λ vs. (inline_parts_fits, λ b. tt)))),
    (
      word_no_end (codes "fragment"),
      refl,
      (λ w. (
        (other_no_end, λ t. tt),
        λ n. ((word_no_end (codes "on"), λ o. (kind_no_end Name refl, λ t. tt)), λ t. (inline_parts_fits, λ b. tt)),
      )),
      (selection_set_fits, λ s. tt),
    ),
  )
