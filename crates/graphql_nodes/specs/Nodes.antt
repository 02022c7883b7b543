-- The nodes of a document: each part of its tree, before the parts in it, with how many nodes these are. C is the type
-- of a scalar's content.
use Rattle.std.specs.Prelude.{ℕ, List, [], ◌∷◌, ◌++◌, length, Option, Some, None}
use Rattle.graphql_lexical.specs.Place.{Span}
use Rattle.graphql_grammar.specs.Tokens.{Text, Located, Word}
use Rattle.graphql_grammar.specs.Tree as tree
use Rattle.graphql_grammar.specs.Tree.{Value, Items, no_items, item, ObjectFields, no_fields, object_field, TypeRef, Argument, Arguments, Directive, Directives, VariableDefinition, Variables, Selection, Selections, no_selections, selection, OptionalSelections, absent, present, Definition}
use Rattle.graphql_grammar.specs.declared.operation.OperationType.{OperationType}
use Rattle.graphql_grammar.specs.declared.operation.OperationType.TheVariants as operation
use Rattle.graphql_nodes.specs.declared.kind.NodeKind.{NodeKind}
use Rattle.graphql_nodes.specs.declared.kind.NodeKind.TheVariants as kind

-- ---- a node

-- The label of a node: nothing, a name, a fragment's name and its type condition, or a type.
pub data Label : Type 0 where
  Unnamed : Label
  Named : Word → Label
  OnType : Word → Word → Label
  Typed : TypeRef → Label

pub record Node (C : Type 0) : Type 0 where
  pub kind : NodeKind
  pub span : Span
  pub label : Label
  -- what a scalar is known by
  pub content : Option C
  -- the number of the nodes after it that are of parts in it
  pub descendants : ℕ

module _ {C : Type 0} where
  -- a node and those of the parts in it
  abbrev pub over : NodeKind → Span → Label → List (Node C) → List (Node C)
  over kind span label inner =
      record { kind = kind; span = span; label = label; content = None; descendants = length inner } ∷ inner

  -- the node of a scalar
  abbrev pub scalar_node : C → Span → Node C
  scalar_node content span =
      record { kind = kind.Scalar; span = span; label = Unnamed; content = Some content; descendants = 0 }

abbrev pub name_of : Option Word → Label
name_of None = Unnamed
name_of (Some word) = Named word

-- a name that is all of its node
abbrev pub named : Text → Span → Label
named name span = Named (record { item = name; span = span })

-- ---- the nodes of each part

-- of a part that may be absent
abbrev pub if_present : {A N : Type 0} → (A → List N) → Option A → List N
if_present nodes None = []
if_present nodes (Some part) = nodes part

-- of parts in a row
unfoldable pub each : {A N : Type 0} → (A → List N) → List A → List N
each nodes [] = []
each nodes (part ∷ parts) = nodes part ++ each nodes parts

unfoldable mutual
  -- of a value that stands there
  pub nodes_at : {C : Type 0} → Value C → Span → List (Node C)
  nodes_at tree.Null span = over kind.Null span Unnamed []
  nodes_at (tree.Scalar content) span = scalar_node content span ∷ []
  nodes_at (tree.Enum name) span = over kind.Enum span (named name span) []
  nodes_at (tree.Variable name) span = over kind.Variable span (named name span) []
  nodes_at (tree.ListOf items) span = over kind.List span Unnamed (items_nodes items)
  nodes_at (tree.Object fields) span = over kind.Object span Unnamed (fields_nodes fields)

  pub items_nodes : {C : Type 0} → Items C → List (Node C)
  items_nodes no_items = []
  items_nodes (item value span items) = nodes_at value span ++ items_nodes items

  pub fields_nodes : {C : Type 0} → ObjectFields C → List (Node C)
  fields_nodes no_fields = []
  fields_nodes (object_field key value span fields) = over kind.ObjectField key.span (Named key) (nodes_at value span)
      ++ fields_nodes fields

abbrev pub value_nodes : {C : Type 0} → Located (Value C) → List (Node C)
value_nodes value = nodes_at value.item value.span

abbrev pub operation_kind : OperationType → NodeKind
operation_kind operation.Query = kind.Query
operation_kind operation.Mutation = kind.Mutation
operation_kind operation.Subscription = kind.Subscription

module _ {C : Type 0} where
  unfoldable pub argument_nodes : Argument C → List (Node C)
  argument_nodes a = over kind.Argument a.name.span (Named a.name) (value_nodes a.value)

  unfoldable pub arguments_nodes : Arguments C → List (Node C)
  arguments_nodes a = over kind.Arguments a.span Unnamed (each argument_nodes a.item)

  unfoldable pub directive_nodes : Located (Directive C) → List (Node C)
  directive_nodes d = over kind.Directive d.span (Named d.item.name) (if_present arguments_nodes d.item.arguments)

  unfoldable pub directives_nodes : Directives C → List (Node C)
  directives_nodes ds = if_present (each directive_nodes) ds

  -- of a type that stands there
  abbrev pub type_nodes : Located TypeRef → List (Node C)
  type_nodes type = over kind.Type type.span (Typed type.item) []

  unfoldable pub variable_nodes : VariableDefinition C → List (Node C)
  variable_nodes v = over kind.VariableDefinition v.name.span (Named v.name)
      (type_nodes v.of_type ++ (if_present value_nodes v.default ++ directives_nodes v.directives))

  unfoldable pub variables_nodes : Variables C → List (Node C)
  variables_nodes v = over kind.VariableDefinitions v.span Unnamed (each variable_nodes v.item)

  unfoldable pub alias_nodes : Word → List (Node C)
  alias_nodes alias = over kind.Alias alias.span (Named alias) []

  unfoldable mutual
    pub selection_nodes : Selection C → List (Node C)
    selection_nodes (tree.Field alias name arguments directives selections span) = over kind.Field span (Named name)
        (if_present alias_nodes alias
        ++ (if_present arguments_nodes arguments ++ (directives_nodes directives ++ optional_nodes selections)))
    selection_nodes (tree.FragmentSpread name directives span) =
        over kind.FragmentSpread span (Named name) (directives_nodes directives)
    selection_nodes (tree.InlineFragment condition directives selections span) =
        over kind.InlineFragment span (name_of condition)
        (directives_nodes directives ++ selections_nodes selections)

    pub optional_nodes : OptionalSelections C → List (Node C)
    optional_nodes absent = []
    optional_nodes (present selections) = selections_nodes selections

    pub selections_nodes : Selections C → List (Node C)
    selections_nodes no_selections = []
    selections_nodes (selection first others) = selection_nodes first ++ selections_nodes others

  unfoldable pub definition_nodes : Definition C → List (Node C)
  definition_nodes (tree.Operation type name variables directives selections span) =
      over (operation_kind type) span (name_of name)
      (if_present variables_nodes variables ++ (directives_nodes directives ++ selections_nodes selections))
  definition_nodes (tree.Fragment name condition directives selections span) =
      over kind.FragmentDefinition span (OnType name condition)
      (directives_nodes directives ++ selections_nodes selections)

  -- of a document
  unfoldable pub document_nodes : List (Definition C) → List (Node C)
  document_nodes ds = each definition_nodes ds
