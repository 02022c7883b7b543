-- The tree of the code, as the grammar sees it: no pointers and no capacities. No part of it is left unseen: None and
-- Some of an empty list differ.
use Rattle.std.specs.Prelude.{ℕ, List, [], ◌∷◌, map, Option, Some, None, option_map, String}
use Rattle.std.specs.Borrow.{Bor}
use Rattle.std.specs.Global.{Vec}
use Rattle.std.specs.Str.{chars}
use Rattle.std.specs.declared.alloc.Global.{Global}
use Rattle.graphql_grammar.specs.Tokens.{Located, Word}
use Rattle.graphql_grammar.specs.Tree as tree
use Rattle.graphql_grammar.specs.Tree.{Value, TypeRef, NamedType, ListType, NonNullType}
use Rattle.juniper_tokens.specs.Spans.{view_span}
use Rattle.juniper_tokens.specs.declared.span.Spanning.{Spanning}
use Rattle.juniper_values.specs.TypeLiteral.{TypeShape}
pub use Rattle.juniper_values.specs.View.{text_of, view_located}
use Rattle.juniper_values.specs.View.{view}
use Rattle.juniper_values.specs.declared.input_value.InputValue.{InputValue}
use Rattle.juniper_values.specs.declared.type_literal.TypeModifier.{TypeModifier}
use Rattle.juniper_values.specs.declared.type_literal.TypeModifier.TheVariants as modifier
use Rattle.juniper_tree.specs.declared.ast.Arguments.{Arguments}
use Rattle.juniper_tree.specs.declared.ast.Directive.{Directive}
use Rattle.juniper_tree.specs.declared.ast.VariableDefinition.{VariableDefinition}
use Rattle.juniper_tree.specs.declared.ast.VariableDefinitions.{VariableDefinitions}
use Rattle.juniper_tree.specs.declared.ast.Field.{Field}
use Rattle.juniper_tree.specs.declared.ast.InlineFragment.{InlineFragment}
use Rattle.juniper_tree.specs.declared.ast.Selection as code
use Rattle.juniper_tree.specs.declared.ast.Definition as definitions
use Rattle.juniper_tree.specs.declared.ast.Definition.TheVariants as definition

-- ---- words

abbrev pub view_word : Spanning (Bor (List ℕ)) → Word
view_word = view_located (λ t. chars t.now)

-- ---- values

-- content says what a scalar is known by
module _ {S C : Type 0} (content : S → C) where
  -- The law SeesValues says what this gives, a case a line.
  abbrev pub view_value : Spanning (InputValue S) → Located (Value C)
  view_value = view_located (view content)

  abbrev pub view_object_field : Spanning (String Global) × Spanning (InputValue S) → Word × Located (Value C)
  view_object_field x = (view_located text_of x.0, view_value x.1)

-- ---- types

-- these modifiers, the innermost first, around a type
abbrev pub wrapped : TypeRef → List TypeModifier → TypeRef
wrapped type [] = type
wrapped type (modifier.NonNull ∷ ms) = wrapped (NonNullType type) ms
wrapped type (modifier.List size ∷ ms) = wrapped (ListType size type) ms

-- a type whose name has these characters
abbrev pub type_of : {W : Type 0} → (W → List ℕ) → TypeShape W → TypeRef
type_of characters type = wrapped (NamedType (characters type.name)) type.modifiers

abbrev pub view_type : TypeShape (Bor (List ℕ)) → TypeRef
view_type = type_of (λ name. chars name.now)

abbrev pub view_spanned_type : Spanning (TypeShape (Bor (List ℕ))) → Located TypeRef
view_spanned_type = view_located view_type

-- ---- arguments, directives and variable definitions

module _ {S C : Type 0} (content : S → C) where
  abbrev pub view_argument : Spanning (Bor (List ℕ)) × Spanning (InputValue S) → tree.Argument C
  view_argument a = record { name = view_word a.0; value = view_value content a.1 }

  abbrev pub view_arguments : Spanning (Arguments S) → tree.Arguments C
  view_arguments = view_located (λ a. map view_argument a.items.items)

  abbrev pub view_directive : Spanning (Directive S) → Located (tree.Directive C)
  view_directive =
      view_located (λ d. record { name = view_word d.name; arguments = option_map view_arguments d.arguments })

  abbrev pub view_directives : Option (Vec (Spanning (Directive S))) → tree.Directives C
  view_directives ds = option_map (λ v. map view_directive v.items) ds

  abbrev pub view_variable : Spanning (Bor (List ℕ)) × VariableDefinition S → tree.VariableDefinition C
  view_variable v = record {
    name = view_word v.0;
    of_type = view_located view_type v.1.var_type;
    default = option_map (view_value content) v.1.default_value;
    directives = view_directives v.1.directives;
  }

  abbrev pub view_variables : Spanning (VariableDefinitions S) → tree.Variables C
  view_variables = view_located (λ v. map view_variable v.items.items)

-- ---- selections

-- Held-Field-selection_set and Row_of-Selection are what the checker makes of the optional list of selections in a
-- selection: to view_held and view_row they are what an Option and a List are to view_set and view_selections.
-- The law SeesSelections says what this gives, a case a line.
module _ {S C : Type 0} (content : S → C) where
  abbrev mutual
    pub view_selection : code.Selection S → tree.Selection C
    view_selection (code.Field' alias name arguments directives selections span) =
        tree.Field
        (option_map view_word alias)
        (view_word name)
        (option_map (view_arguments content) arguments)
        (view_directives content directives)
        (view_held selections)
        (view_span span)
    view_selection (code.FragmentSpread s) =
        tree.FragmentSpread
        (view_word s.item.name)
        (view_directives content s.item.directives)
        (view_span s.span)
    view_selection (code.InlineFragment' condition directives shape all span) =
        tree.InlineFragment
        (option_map view_word condition)
        (view_directives content directives)
        (view_row all)
        (view_span span)

    pub view_held : code.Held-Field-selection_set S → tree.OptionalSelections C
    view_held code.None' = tree.absent
    view_held (code.Some' shape all) = tree.present (view_row all)

    pub view_row : {m : _} → code.Row_of-Selection S m → tree.Selections C
    view_row code.end_of-Selection = tree.no_selections
    view_row (code.more_of-Selection s rest) = tree.selection (view_selection s) (view_row rest)

  abbrev pub view_selections : List (code.Selection S) → tree.Selections C
  view_selections [] = tree.no_selections
  view_selections (s ∷ ss) = tree.selection (view_selection s) (view_selections ss)

  abbrev pub view_set : Option (Vec (code.Selection S)) → tree.OptionalSelections C
  view_set None = tree.absent
  view_set (Some v) = tree.present (view_selections v.items)

  abbrev pub view_field : Spanning (Field S) → tree.Selection C
  view_field f =
      tree.Field
      (option_map view_word f.item.alias)
      (view_word f.item.name)
      (option_map (view_arguments content) f.item.arguments)
      (view_directives content f.item.directives)
      (view_set f.item.selection_set)
      (view_span f.span)

  abbrev pub view_inline : Spanning (InlineFragment S) → tree.Selection C
  view_inline f =
      tree.InlineFragment
      (option_map view_word f.item.type_condition)
      (view_directives content f.item.directives)
      (view_selections f.item.selection_set.items)
      (view_span f.span)

-- ---- definitions

module _ {S C : Type 0} (content : S → C) where
  abbrev pub view_definition : definitions.Definition S → tree.Definition C
  view_definition (definition.Operation o) =
      tree.Operation
      o.item.operation_type
      (option_map view_word o.item.name)
      (option_map (view_variables content) o.item.variable_definitions)
      (view_directives content o.item.directives)
      (view_selections content o.item.selection_set.items)
      (view_span o.span)
  view_definition (definition.Fragment f) =
      tree.Fragment
      (view_word f.item.name)
      (view_word f.item.type_condition)
      (view_directives content f.item.directives)
      (view_selections content f.item.selection_set.items)
      (view_span f.span)

  abbrev pub view_document : Vec (definitions.Definition S) → List (tree.Definition C)
  view_document document = map view_definition document.items
