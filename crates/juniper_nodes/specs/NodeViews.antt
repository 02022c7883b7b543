-- The nodes of the code, as the definitions see them, and how a list of them grows.
use Rattle.std.specs.Prelude.{◌≡◌, ℕ, List, ◌∷◌, ◌++◌, map, length, Option, option_map, Result, Ok, Err}
use Rattle.std.specs.Global.{Vec}
use Rattle.std.specs.Str.{chars}
use Rattle.graphql_lexical.specs.Place.{Span}
use Rattle.graphql_grammar.specs.Tokens.{Word}
use Rattle.graphql_grammar.specs.Tree as tree
use Rattle.graphql_nodes.specs.Nodes as nodes
use Rattle.juniper_tokens.specs.Spans.{view_span}
use Rattle.juniper_tokens.specs.declared.span.Spanning.{Spanning}
use Rattle.juniper_tree.specs.declared.ast.Definition.TheVariants as definition
use Rattle.juniper_tree.specs.declared.ast.Fragment.{Fragment}
use Rattle.juniper_tree.specs.declared.ast.FragmentSpread.{FragmentSpread}
use Rattle.juniper_tree.specs.declared.ast.Operation.{Operation}
use Rattle.juniper_tree.specs.View.{view_word, view_type, view_directives, view_definition}
use Rattle.juniper_nodes.specs.declared.node.Label.{Label}
use Rattle.juniper_nodes.specs.declared.node.Label.TheVariants as label
use Rattle.juniper_nodes.specs.declared.node.Node.{Node}

-- the label of a node of this span
abbrev pub view_label : Span → Label → nodes.Label
view_label span label.Unnamed = nodes.Unnamed
view_label span (label.Name name) = nodes.Named (view_word name.now)
view_label span (label.Text text) = nodes.named (chars text.now) span
view_label span (label.Fragment name condition) = nodes.OnType (view_word name.now) (view_word condition.now)
view_label span (label.Type type) = nodes.Typed (view_type type.now)

-- the label has this name, or there is none, wherever the node stands
abbrev pub TellsName : Label → Option Word → Type 0
TellsName label name = (span : Span) → view_label span label ≡ nodes.name_of name

-- see says how a node is seen
module _ {N C : Type 0} (see : N → nodes.Node C) where
  -- the new list has these nodes after the old ones
  pub record GainsBy (old new : Vec N) (added : List (nodes.Node C)) : Type 0 where
    pub nodes : map see new.items ≡ map see old.items ++ added

  -- what stood before still stands in front
  pub record StandsBy (old new : Vec N) : Type 0 where
    pub added : List (nodes.Node C)
    pub gains : GainsBy old new added

  -- The list has gained these nodes; where memory ran out, what stood before still stands in front.
  abbrev pub GrowsBy : {X E : Type 0} → Result X E → Vec N → Vec N → List (nodes.Node C) → Type 0
  GrowsBy (Ok x) old new added = GainsBy old new added
  GrowsBy (Err e) old new added = StandsBy old new

-- content says what a scalar is known by
module _ {S C : Type 0} (content : S → C) where
  abbrev pub view_node : Node S → nodes.Node C
  view_node node = record {
    kind = node.kind;
    span = view_span node.span.now;
    label = view_label (view_span node.span.now) node.label;
    content = option_map (λ scalar. content scalar.now) node.scalar;
    descendants = node.descendants;
  }

  abbrev pub view_nodes : Vec (Node S) → List (nodes.Node C)
  view_nodes ns = map view_node ns.items

  -- the same of nodes of the code
  abbrev pub Gains : Vec (Node S) → Vec (Node S) → List (nodes.Node C) → Type 0
  Gains = GainsBy view_node

  abbrev pub StandsInFront : Vec (Node S) → Vec (Node S) → Type 0
  StandsInFront = StandsBy view_node

  abbrev pub Grows : {X E : Type 0} → Result X E → Vec (Node S) → Vec (Node S) → List (nodes.Node C) → Type 0
  Grows result = GrowsBy view_node result

  -- The node at this place has its number of descendants: all nodes after it.
  pub record CountsInner (old new : Vec (Node S)) (place : ℕ) : Type 0 where
    pub nodes : (before inner : List (nodes.Node C)) (node : nodes.Node C) → length before ≡ place
        → view_nodes old ≡ before ++ (node ∷ inner)
        → view_nodes new ≡ before ++ (record node { descendants = length inner } ∷ inner)

-- parts of the tree of which the code has functions of their own
module _ {S C : Type 0} (content : S → C) where
  abbrev pub view_spread : Spanning (FragmentSpread S) → tree.Selection C
  view_spread s =
      tree.FragmentSpread (view_word s.item.name) (view_directives content s.item.directives) (view_span s.span)

  abbrev pub view_operation : Spanning (Operation S) → tree.Definition C
  view_operation o = view_definition content (definition.Operation o)

  abbrev pub view_fragment : Spanning (Fragment S) → tree.Definition C
  view_fragment f = view_definition content (definition.Fragment f)
