-- Trees without their spans: in the place of each span stands the one that is nowhere.
use Rattle.std.specs.Prelude.{◌≡◌, List, map, Option, Some, None}
use Rattle.graphql_grammar.specs.Tokens.{Located, Word, nowhere}
use Rattle.graphql_grammar.specs.Tree.{Value, Null, Scalar, Enum, Variable, ListOf, Object, Items, no_items, item, ObjectFields, no_fields, object_field, Argument, Arguments, Directive, Directives, VariableDefinition, Variables, Selection, Field, FragmentSpread, InlineFragment, Selections, no_selections, selection, OptionalSelections, absent, present, Definition, Operation, Fragment}

abbrev pub if_some : {A : Type 0} → (A → A) → Option A → Option A
if_some f None = None
if_some f (Some x) = Some (f x)

abbrev pub unlocated : {A : Type 0} → (A → A) → Located A → Located A
unlocated f x = record { item = f x.item; span = nowhere }

abbrev pub unlocated_word : Word → Word
unlocated_word = unlocated (λ text. text)

abbrev mutual
  pub unlocated_value : {C : Type 0} → Value C → Value C
  unlocated_value Null = Null
  unlocated_value (Scalar content) = Scalar content
  unlocated_value (Enum name) = Enum name
  unlocated_value (Variable name) = Variable name
  unlocated_value (ListOf values) = ListOf (unlocated_items values)
  unlocated_value (Object fields) = Object (unlocated_fields fields)

  pub unlocated_items : {C : Type 0} → Items C → Items C
  unlocated_items no_items = no_items
  unlocated_items (item value span values) = item (unlocated_value value) nowhere (unlocated_items values)

  pub unlocated_fields : {C : Type 0} → ObjectFields C → ObjectFields C
  unlocated_fields no_fields = no_fields
  unlocated_fields (object_field name value span fields) =
      object_field (unlocated_word name) (unlocated_value value) nowhere (unlocated_fields fields)

module _ {C : Type 0} where
  abbrev pub unlocated_argument : Argument C → Argument C
  unlocated_argument a = record { name = unlocated_word a.name; value = unlocated unlocated_value a.value }

  abbrev pub unlocated_arguments : Arguments C → Arguments C
  unlocated_arguments = unlocated (map unlocated_argument)

  abbrev pub unlocated_directive : Located (Directive C) → Located (Directive C)
  unlocated_directive =
      unlocated (λ d. record { name = unlocated_word d.name; arguments = if_some unlocated_arguments d.arguments })

  abbrev pub unlocated_directives : Directives C → Directives C
  unlocated_directives = if_some (map unlocated_directive)

  abbrev pub unlocated_variable : VariableDefinition C → VariableDefinition C
  unlocated_variable v = record {
    name = unlocated_word v.name;
    of_type = unlocated (λ type. type) v.of_type;
    default = if_some (unlocated unlocated_value) v.default;
    directives = unlocated_directives v.directives;
  }

  abbrev pub unlocated_variables : Variables C → Variables C
  unlocated_variables = unlocated (map unlocated_variable)

  abbrev mutual
    pub unlocated_selection : Selection C → Selection C
    unlocated_selection (Field alias name arguments directives selections span) =
        Field (if_some unlocated_word alias) (unlocated_word name) (if_some unlocated_arguments arguments)
        (unlocated_directives directives) (unlocated_optional selections) nowhere
    unlocated_selection (FragmentSpread name directives span) =
        FragmentSpread (unlocated_word name) (unlocated_directives directives) nowhere
    unlocated_selection (InlineFragment condition directives selections span) =
        InlineFragment (if_some unlocated_word condition) (unlocated_directives directives)
        (unlocated_selections selections) nowhere

    pub unlocated_selections : Selections C → Selections C
    unlocated_selections no_selections = no_selections
    unlocated_selections (selection s selections) = selection (unlocated_selection s) (unlocated_selections selections)

    pub unlocated_optional : OptionalSelections C → OptionalSelections C
    unlocated_optional absent = absent
    unlocated_optional (present selections) = present (unlocated_selections selections)

  abbrev pub unlocated_definition : Definition C → Definition C
  unlocated_definition (Operation type name variables directives selections span) =
      Operation type (if_some unlocated_word name) (if_some unlocated_variables variables)
      (unlocated_directives directives) (unlocated_selections selections) nowhere
  unlocated_definition (Fragment name condition directives selections span) =
      Fragment (unlocated_word name) (unlocated_word condition) (unlocated_directives directives)
      (unlocated_selections selections) nowhere

  -- Two documents, or two values, differ in spans alone.
  abbrev pub SameDocument : List (Definition C) → List (Definition C) → Type 0
  SameDocument a b = map unlocated_definition a ≡ map unlocated_definition b

  abbrev pub SameValue : Value C → Value C → Type 0
  SameValue a b = unlocated_value a ≡ unlocated_value b
