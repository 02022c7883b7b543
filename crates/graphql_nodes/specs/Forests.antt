-- What a list of nodes is walked by.
use Rattle.std.specs.Prelude.{◌≡◌, List, [], ◌∷◌, ◌++◌, length}
use Rattle.graphql_nodes.specs.Nodes.{Node}

-- Nodes in which each one's descendants stand after it: no node, or a node, its descendants, as many as it says, and
-- the nodes after them, where both the descendants and those after are such nodes.
pub data IsForest {C : Type 0} : List (Node C) → Type 0 where
  no_node : IsForest []
  node_first : {nodes : List (Node C)} (node : Node C) (inner rest : List (Node C)) → nodes ≡ node ∷ inner ++ rest
      → node.descendants ≡ length inner → IsForest inner → IsForest rest → IsForest nodes
