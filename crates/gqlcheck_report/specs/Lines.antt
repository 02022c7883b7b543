-- The lines that are written for a tree, as characters: one for each node of the document. Nothing is indented.
use Rattle.std.specs.Prelude.{ℕ, List, [], ◌∷◌, ◌++◌}
use Rattle.std.specs.Fmt.{decimal}
use Rattle.graphql_grammar.specs.Tokens.{Text}
use Rattle.graphql_grammar.specs.Tree.{Definition}
use Rattle.graphql_nodes.specs.Kinds.{kind_name}
use Rattle.graphql_nodes.specs.Nodes.{Node, Label, Unnamed, Named, OnType, Typed, each, document_nodes}
use Rattle.graphql_nodes.specs.Types.{type_text}
use Rattle.graphql_nodes.specs.declared.kind.NodeKind.{NodeKind}

-- a kind, and the indexes of a start and of an end
unfoldable pub place_text : NodeKind → ℕ → ℕ → Text
place_text kind start end = kind_name kind ++ (32 ∷ (decimal start ++ (32 ∷ decimal end)))

-- the label of a node, after a space
unfoldable pub label_text : Label → Text
label_text Unnamed = []
label_text (Named name) = 32 ∷ name.item
label_text (OnType name condition) = 32 ∷ (name.item ++ (32 ∷ condition.item))
label_text (Typed type) = 32 ∷ type_text type

module _ {C : Type 0} where
  unfoldable pub node_line : Node C → Text
  node_line node = place_text node.kind node.span.start.index node.span.end.index
      ++ (label_text node.label ++ (10 ∷ []))

  unfoldable pub document_lines : List (Definition C) → Text
  document_lines ds = each node_line (document_nodes ds)
