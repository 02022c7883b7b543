-- The kind of the node that a list begins with.
use Rattle.std.proofs.Common.{◌≡◌, ◌∷◌, [], List, ◌++◌, Option, Some, None, refl, sym, ap, ◌∙◌}
use Rattle.graphql_grammar.specs.Tree as tree
use Rattle.graphql_grammar.specs.Tree.{Value, Argument, Arguments, Directive, Directives, Selection, Selections, no_selections, selection, OptionalSelections, absent, present, Definition}
use Rattle.graphql_nodes.specs.declared.kind.NodeKind.{NodeKind}
use Rattle.graphql_nodes.specs.declared.kind.NodeKind.TheVariants as kind
use Rattle.graphql_nodes.specs.Nodes.{Node, if_present, each, argument_nodes, arguments_nodes, directive_nodes, directives_nodes, variable_nodes, variables_nodes, alias_nodes, selection_nodes, optional_nodes, selections_nodes, definition_nodes, operation_kind, nodes_at}
use Rattle.graphql_lexical.specs.Place.{Span}

-- the two kinds are not the same
abbrev pub Differ : NodeKind → NodeKind → Type 0
Differ j k = Some j ≡ Some k → ⊥

abbrev FirstIs : Option NodeKind → NodeKind → Type 0
FirstIs first k = first ≡ Some k

pub no_first : (k : NodeKind) → FirstIs None k → ⊥
no_first k e = absurd (cc)

module _ {C : Type 0} where
  abbrev pub first_kind : List (Node C) → Option NodeKind
  first_kind [] = None
  first_kind (n ∷ ns) = Some n.kind

  -- no node of this kind stands in front
  abbrev pub Avoids : NodeKind → List (Node C) → Type 0
  Avoids k ns = first_kind ns ≡ Some k → ⊥

  -- the nodes of such a part begin with one of this kind
  abbrev pub BeginsWith : {A : Type 0} → (A → List (Node C)) → (A → NodeKind) → Type 0
  BeginsWith {A} nodes kind_of = (x : A) (r : List (Node C)) → first_kind (nodes x ++ r) ≡ Some (kind_of x)

  -- no nodes of such a part stand in front
  abbrev pub Apart : {A : Type 0} → (A → List (Node C)) → List (Node C) → Type 0
  Apart {A} nodes r = (x : A) (us : List (Node C)) → nodes x ++ us ≡ r → ⊥

  pub no_part : {A : Type 0} (nodes : A → List (Node C)) (kind_of : A → NodeKind) → BeginsWith nodes kind_of
      → Apart nodes []
  no_part nodes kind_of begins x us e = let k = sym (begins x us) ∙ ap first_kind e in absurd (cc)

  pub another_kind : {A : Type 0} (nodes : A → List (Node C)) (j : NodeKind) → BeginsWith nodes (λ x. j)
      → (r : List (Node C)) → Avoids j r → Apart nodes r
  another_kind nodes j begins r avoids x us e = avoids (ap first_kind (sym e) ∙ begins x us)

  -- ---- the kinds of parts

  abbrev pub kind_of_value : Value C → NodeKind
  kind_of_value tree.Null = kind.Null
  kind_of_value (tree.Scalar c) = kind.Scalar
  kind_of_value (tree.Enum w) = kind.Enum
  kind_of_value (tree.Variable w) = kind.Variable
  kind_of_value (tree.ListOf vs) = kind.List
  kind_of_value (tree.Object fs) = kind.Object

  pub value_first : (v : Value C) (p : Span) (r : List (Node C))
      → first_kind (nodes_at v p ++ r) ≡ Some (kind_of_value v)
  unfolding nodes_at
  value_first tree.Null p r = refl
  value_first (tree.Scalar c) p r = refl
  value_first (tree.Enum w) p r = refl
  value_first (tree.Variable w) p r = refl
  value_first (tree.ListOf vs) p r = refl
  value_first (tree.Object fs) p r = refl

  pub value_no_directive : (v : Value C) → Differ (kind_of_value v) kind.Directive
  value_no_directive tree.Null e = absurd (cc)
  value_no_directive (tree.Scalar c) e = absurd (cc)
  value_no_directive (tree.Enum w) e = absurd (cc)
  value_no_directive (tree.Variable w) e = absurd (cc)
  value_no_directive (tree.ListOf vs) e = absurd (cc)
  value_no_directive (tree.Object fs) e = absurd (cc)

  pub argument_first : BeginsWith argument_nodes (λ a. kind.Argument)
  unfolding argument_nodes
  argument_first a r = refl

  pub arguments_first : BeginsWith arguments_nodes (λ a. kind.Arguments)
  unfolding arguments_nodes
  arguments_first a r = refl

  pub directive_first : BeginsWith directive_nodes (λ d. kind.Directive)
  unfolding directive_nodes
  directive_first d r = refl

  pub variable_first : BeginsWith variable_nodes (λ v. kind.VariableDefinition)
  unfolding variable_nodes
  variable_first v r = refl

  pub variables_first : BeginsWith variables_nodes (λ v. kind.VariableDefinitions)
  unfolding variables_nodes
  variables_first v r = refl

  pub alias_first : BeginsWith alias_nodes (λ w. kind.Alias)
  unfolding alias_nodes
  alias_first w r = refl

  abbrev pub kind_of_selection : Selection C → NodeKind
  kind_of_selection (tree.Field alias name arguments directives ss p) = kind.Field
  kind_of_selection (tree.FragmentSpread name directives p) = kind.FragmentSpread
  kind_of_selection (tree.InlineFragment condition directives ss p) = kind.InlineFragment

  pub selection_first : BeginsWith selection_nodes kind_of_selection
  unfolding selection_nodes
  selection_first (tree.Field alias name arguments directives ss p) r = refl
  selection_first (tree.FragmentSpread name directives p) r = refl
  selection_first (tree.InlineFragment condition directives ss p) r = refl

  abbrev pub kind_of_definition : Definition C → NodeKind
  kind_of_definition (tree.Operation type name variables directives ss p) = operation_kind type
  kind_of_definition (tree.Fragment name condition directives ss p) = kind.FragmentDefinition

  pub definition_first : BeginsWith definition_nodes kind_of_definition
  unfolding definition_nodes
  definition_first (tree.Operation type name variables directives ss p) r = refl
  definition_first (tree.Fragment name condition directives ss p) r = refl

  -- ---- what stands in front of parts in a row

  pub if_present_avoids : {A : Type 0} (nodes : A → List (Node C)) (j k : NodeKind) → BeginsWith nodes (λ x. j)
      → Differ j k
      → (a : Option A) (r : List (Node C)) → Avoids k r → Avoids k (if_present nodes a ++ r)
  if_present_avoids nodes j k begins differ None r avoids = avoids
  if_present_avoids nodes j k begins differ (Some x) r avoids = λ e. differ (sym (begins x r) ∙ e)

  pub directives_avoid : (k : NodeKind) → Differ kind.Directive k
      → (ds : Directives C) (r : List (Node C)) → Avoids k r → Avoids k (directives_nodes ds ++ r)
  unfolding directives_nodes each directive_nodes
  directives_avoid k differ None r avoids = avoids
  directives_avoid k differ (Some []) r avoids = avoids
  directives_avoid k differ (Some (d ∷ ds)) r avoids = differ

  pub selections_avoid : (k : NodeKind) → Differ kind.Field k → Differ kind.FragmentSpread k
      → Differ kind.InlineFragment k
      → (ss : Selections C) → Avoids k (selections_nodes ss)
  unfolding selection_nodes
  selections_avoid k field spread inline no_selections e = absurd (cc)
  selections_avoid k field spread inline (selection (tree.Field alias name arguments directives ss p) others) e =
      field e
  selections_avoid k field spread inline (selection (tree.FragmentSpread name directives p) others) e = spread e
  selections_avoid k field spread inline (selection (tree.InlineFragment condition directives ss p) others) e =
      inline e

  pub optional_avoid : (k : NodeKind) → Differ kind.Field k → Differ kind.FragmentSpread k
      → Differ kind.InlineFragment k
      → (ss : OptionalSelections C) → Avoids k (optional_nodes ss)
  unfolding selection_nodes
  optional_avoid k field spread inline absent e = absurd (cc)
  optional_avoid k field spread inline (present ss) e = selections_avoid k field spread inline ss e
