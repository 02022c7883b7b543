-- A device of the proofs, and no definition: how each production is read, one step after another, as the code takes them.
use Rattle.std.specs.Prelude.{ℕ, zero, suc, Bool, true, false, ◌&&◌, ◌||◌, not, List, [], ◌∷◌, codes, bytes_eq, Option, Some, None, if◌then◌else◌}
use Rattle.graphql_lexical.specs.declared.kind.Kind.{Kind}
use Rattle.graphql_lexical.specs.declared.kind.Kind.TheVariants.{ParenOpen, ParenClose, At, Ellipsis, Equals, Name, Dollar, BracketOpen, BracketClose, CurlyOpen, CurlyClose, Colon, ExclamationMark, EndOfFile}
use Rattle.graphql_lexical.specs.Place.{Span}
use Rattle.graphql_grammar.specs.Tokens.{Text, Located, Word, word_of, over, from_to}
use Rattle.graphql_grammar.specs.Tree.{Scalars, Value, Null, Scalar, Enum, Variable, ListOf, Object, items_of, fields_of, TypeRef, NamedType, ListType, NonNullType, Argument, Arguments, Directive, Directives, VariableDefinition, Variables, Selection, Field, FragmentSpread, InlineFragment, Selections, selections_of, OptionalSelections, absent, present, Definition, Operation, Fragment}
use Rattle.graphql_grammar.specs.declared.operation.OperationType.{OperationType}
use Rattle.graphql_grammar.specs.declared.operation.OperationType.TheVariants.{Query, Mutation, Subscription}
use Rattle.graphql_grammar.specs.device.Reading.{Test, of, word, Reader, Out, Symbol, a_value, a_type, a_selection, Steps, gives, wants, takes, sees, part, symbol, spanned, scalar, closed, each, run}

-- a part that begins with a token of this kind, if it stands there
abbrev pub optional : {C A : Type 0} → Kind → Steps C A → Steps C (Option A)
optional kind p = sees (of kind) (part p (λ a. gives (Some a))) (gives None)

-- one item or more up to a closing token
abbrev pub several : {C A : Type 0} → Kind → Steps C A → Steps C (List A)
several kind p = part p (λ x. closed (of kind) p (λ xs q. gives (x ∷ xs)))

-- ---- values

abbrev pub by_name : {C F : Type 0} → Scalars C F → Text → Value C
by_name S w = if bytes_eq w (codes "true") then Scalar (S.of_bool true)
    else if bytes_eq w (codes "false") then Scalar (S.of_bool false)
    else if bytes_eq w (codes "null") then Null
    else Enum w

abbrev pub variable_start : Bool → Test
variable_start free kind text = free && of Dollar kind text

-- a Name other than `on`
abbrev pub other_than_on : Test
other_than_on kind text = of Name kind text && not (bytes_eq text (codes "on"))

abbrev pub operation_word : Test
operation_word kind text = word (codes "query") kind text || word (codes "mutation") kind text || word (codes "subscription") kind text

-- the type of the operation that begins with this word
abbrev pub operation_of : Text → OperationType
operation_of text = if bytes_eq text (codes "mutation") then Mutation else (if bytes_eq text (codes "subscription") then Subscription else Query)

module _ {C : Type 0} where
  -- "$" Name, from the dollar's p on
  unfoldable pub variable : Span → Steps C (Located (Value C))
  variable p = wants (of Name) (λ w. gives (record { item = Variable w.text; span = from_to p w.span }))

  -- Value(c)* "]", from the bracket's p on
  unfoldable pub list : Bool → Span → Steps C (Located (Value C))
  list free p = closed (of BracketClose) (symbol (a_value free)) (λ vs q. gives (record { item = ListOf (items_of vs); span = from_to p q }))

  -- Name ":" Value(c)
  unfoldable pub key_and_value : Bool → Steps C (Word × Located (Value C))
  key_and_value free = wants (of Name) (λ k. wants (of Colon) (λ c. part (symbol (a_value free)) (λ v. gives (word_of k, v))))

  -- (Name ":" Value(c))* "}", from the brace's p on
  unfoldable pub object : Bool → Span → Steps C (Located (Value C))
  object free p = closed (of CurlyClose) (key_and_value free) (λ fs q. gives (record { item = Object (fields_of fs); span = from_to p q }))

  unfoldable pub value : {F : Type 0} → Scalars C F → Bool → Steps C (Located (Value C))
  value S free =
      takes (of BracketOpen) (λ o. list free o.span)
      (takes (of CurlyOpen) (λ o. object free o.span)
      (takes (variable_start free) (λ d. variable d.span)
      (takes (of Name) (λ t. gives (record { item = by_name S t.text; span = t.span }))
      (scalar gives))))

  -- ---- types

  -- Name
  unfoldable pub named_type : Steps C (Located TypeRef)
  named_type = wants (of Name) (λ w. gives (record { item = NamedType w.text; span = w.span }))

  -- "[" Type "]"
  unfoldable pub list_type : Steps C (Located TypeRef)
  list_type = wants (of BracketOpen) (λ o. part (symbol a_type) (λ x. wants (of BracketClose) (λ c. gives (record { item = ListType None x.item; span = over o c }))))

  unfoldable pub nullable_type : Steps C (Located TypeRef)
  nullable_type = sees (of Name) named_type list_type

  -- "!"?, after a type
  unfoldable pub non_null : Located TypeRef → Steps C (Located TypeRef)
  non_null x = takes (of ExclamationMark) (λ m. gives (record { item = NonNullType x.item; span = from_to x.span m.span })) (gives x)

  unfoldable pub type : Steps C (Located TypeRef)
  type = part nullable_type (λ x. non_null x)

  -- ---- arguments and directives

  -- Name ":" Value(free)
  unfoldable pub argument : Steps C (Argument C)
  argument = wants (of Name) (λ k. wants (of Colon) (λ c. part (symbol (a_value true)) (λ v. gives (record { name = word_of k; value = v }))))

  unfoldable pub arguments_inner : Steps C (List (Argument C))
  arguments_inner = several ParenClose argument

  -- "(" (Name ":" Value(free))+ ")"
  abbrev pub arguments_parts : Steps C (Span → Arguments C)
  arguments_parts = wants (of ParenOpen) (λ o. part arguments_inner (λ xs. gives (λ p. record { item = xs; span = p })))

  unfoldable pub arguments : Steps C (Arguments C)
  arguments = spanned arguments_parts

  unfoldable pub optional_arguments : Steps C (Option (Arguments C))
  optional_arguments = optional ParenOpen arguments

  -- "@" Name Arguments?
  abbrev pub directive_parts : Steps C (Span → Located (Directive C))
  directive_parts = wants (of At) (λ a. wants (of Name) (λ w. part optional_arguments (λ xs.
      gives (λ p. record { item = record { name = word_of w; arguments = xs }; span = p }))))

  unfoldable pub directive : Steps C (Located (Directive C))
  directive = spanned directive_parts

  -- None where there is none
  abbrev pub directives_of : List (Located (Directive C)) → Directives C
  directives_of [] = None
  directives_of (d ∷ ds) = Some (d ∷ ds)

  -- Directive*
  unfoldable pub directives : Steps C (Directives C)
  directives = each (of At) directive (λ ds. gives (directives_of ds))

  -- ---- variable definitions

  -- ("=" Value(const))?
  unfoldable pub default : Steps C (Option (Located (Value C)))
  default = sees (of Equals) (wants (of Equals) (λ e. part (symbol (a_value false)) (λ v. gives (Some v)))) (gives None)

  -- "$" Name ":" Type ("=" Value(const))? Directive*
  unfoldable pub variable_definition : Steps C (VariableDefinition C)
  variable_definition = wants (of Dollar) (λ d. wants (of Name) (λ w. wants (of Colon) (λ c. part (symbol a_type) (λ x. part default (λ v. part directives (λ ds.
      gives (record { name = record { item = w.text; span = over d w }; of_type = x; default = v; directives = ds })))))))

  unfoldable pub variables_inner : Steps C (List (VariableDefinition C))
  variables_inner = several ParenClose variable_definition

  -- "(" VariableDefinition+ ")"
  abbrev pub variables_parts : Steps C (Span → Variables C)
  variables_parts = wants (of ParenOpen) (λ o. part variables_inner (λ xs. gives (λ p. record { item = xs; span = p })))

  unfoldable pub variables : Steps C (Variables C)
  variables = spanned variables_parts

  unfoldable pub optional_variables : Steps C (Option (Variables C))
  optional_variables = optional ParenOpen variables

  -- ---- selections

  unfoldable pub selections_inner : Steps C (List (Selection C))
  selections_inner = several CurlyClose (symbol a_selection)

  -- "{" Selection+ "}"
  unfoldable pub selection_set : Steps C (Selections C)
  selection_set = wants (of CurlyOpen) (λ o. part selections_inner (λ ss. gives (selections_of ss)))

  unfoldable pub optional_set : Steps C (Option (Selections C))
  optional_set = optional CurlyOpen selection_set

  abbrev pub optional_of : Option (Selections C) → OptionalSelections C
  optional_of None = absent
  optional_of (Some s) = present s

  -- (Name ":")? Name
  abbrev pub names : Steps C (Option Word × Word)
  names = wants (of Name) (λ a. takes (of Colon) (λ c. wants (of Name) (λ t. gives (Some (word_of a), word_of t))) (gives (None, word_of a)))

  -- (Name ":")? Name Arguments? Directive* SelectionSet?
  abbrev pub field_parts : Steps C (Span → Selection C)
  field_parts = part names (λ n. part optional_arguments (λ xs. part directives (λ ds. part optional_set (λ ss.
      gives (Field n.0 n.1 xs ds (optional_of ss))))))

  unfoldable pub field : Steps C (Selection C)
  field = spanned field_parts

  -- Directive*, after three dots and a FragmentName
  unfoldable pub named_spread : Word → Steps C (Span → Selection C)
  named_spread w = part directives (λ ds. gives (FragmentSpread w ds))

  -- Directive* SelectionSet
  unfoldable pub inline_parts : Steps C (Directives C × Selections C)
  inline_parts = part directives (λ ds. part selection_set (λ ss. gives (ds, ss)))

  -- Directive* SelectionSet, after three dots
  unfoldable pub inline : Option Word → Steps C (Span → Selection C)
  inline w = part inline_parts (λ b. gives (InlineFragment w b.0 b.1))

  -- Name Directive* SelectionSet, after three dots and `on`
  unfoldable pub typed : Steps C (Span → Selection C)
  typed = wants (of Name) (λ t. inline (Some (word_of t)))

  -- "..." FragmentName Directive* | "..." ("on" Name)? Directive* SelectionSet
  abbrev pub spread_parts : Steps C (Span → Selection C)
  spread_parts = wants (of Ellipsis) (λ e.
      takes (word (codes "on")) (λ o. typed)
      (takes other_than_on (λ t. named_spread (word_of t))
      (inline None)))

  unfoldable pub spread : Steps C (Selection C)
  spread = spanned spread_parts

  unfoldable pub any_selection : Steps C (Selection C)
  any_selection = sees (of Ellipsis) spread field

  -- ---- definitions

  -- Name?
  abbrev pub optional_name : Steps C (Option Word)
  optional_name = sees (of Name) (wants (of Name) (λ w. gives (Some (word_of w)))) (gives None)

  -- Name? Variables? Directive* SelectionSet, after the word
  unfoldable pub operation : OperationType → Steps C (Span → Definition C)
  operation o = part optional_name (λ n. part optional_variables (λ vs. part inline_parts (λ b. gives (Operation o n vs b.0 b.1))))

  -- "on" Name
  abbrev pub type_condition : Steps C Word
  type_condition = wants (word (codes "on")) (λ o. wants (of Name) (λ t. gives (word_of t)))

  -- a Name other than "on"
  abbrev pub fragment_name : Steps C Word
  fragment_name = wants other_than_on (λ t. gives (word_of t))

  -- FragmentName "on" Name Directive* SelectionSet, after the word
  unfoldable pub fragment : Steps C (Span → Definition C)
  fragment = part fragment_name (λ n. part type_condition (λ t. part inline_parts (λ b. gives (Fragment n t b.0 b.1))))

  -- SelectionSet
  unfoldable pub shorthand : Steps C (Span → Definition C)
  shorthand = part selection_set (λ s. gives (Operation Query None None None s))

  abbrev pub definition_parts : Steps C (Span → Definition C)
  definition_parts = takes operation_word (λ w. operation (operation_of w.text)) (takes (word (codes "fragment")) (λ w. fragment) shorthand)

  unfoldable pub definition : Steps C (Definition C)
  definition = spanned definition_parts

  -- Definition+, and the end
  unfoldable pub document : Steps C (List (Definition C))
  document = part definition (λ x. closed (of EndOfFile) definition (λ xs q. gives (x ∷ xs)))

-- ---- with fuel

module _ {C F : Type 0} (S : Scalars C F) where
  abbrev pub steps_of : {A : Type 0} → Symbol C A → Steps C A
  steps_of (a_value free) = value S free
  steps_of a_type = type
  steps_of a_selection = any_selection

  unfoldable pub symbol_at : ℕ → (A : Type 0) → Symbol C A → Reader F A
  symbol_at zero A r ts = Out
  symbol_at (suc n) A r ts = run S (symbol_at n) n (steps_of r) ts

  abbrev pub reads : ℕ → {A : Type 0} → Steps C A → Reader F A
  reads n p = run S (symbol_at n) n p
