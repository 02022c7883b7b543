-- The place of a node whose parts come after it, and a list in which memory ran out before them.
use Rattle.std.specs.Global.{Vec}
use Rattle.std.specs.Prelude.{Result, Ok, Err, IsErr}
use Rattle.std.proofs.Common.{true≢false, ◌≡◌, ℕ, ◌<◌, List, [], length, sym, ap, arith}
use Rattle.std.proofs.lemmas.List.{length-append}
use Rattle.graphql_lexical.specs.Place.{Span}
use Rattle.graphql_nodes.specs.Nodes.{Node, Label, over}
use Rattle.graphql_nodes.specs.declared.kind.NodeKind.{NodeKind}
use Rattle.juniper_nodes.specs.declared.node.Node as code
use Rattle.juniper_nodes.specs.NodeViews.{view_nodes, Gains, Grows, StandsInFront}

module _ {S C : Type 0} (content : S → C) where
  -- the node's place is in the list, whatever has come after it
  pub place_held : {old opened filled : Vec (code.Node S)} {place : ℕ}
      → {kind : NodeKind} {span : Span} {label : Label} {inner : List (Node C)}
      → (place ≡ length (view_nodes content old)) × Gains content old opened (over kind span label [])
      → Gains content opened filled inner → place < length (view_nodes content filled)
  place_held {old} {opened} {kind = kind} {span = span} {label = label} {inner = inner} p q =
      let node : List (Node C) = over kind span label [] in
      omega (
        arith,
        p.0,
        ap length p.1.nodes,
        ap length q.nodes,
        length-append (view_nodes content old) node,
        length-append (view_nodes content opened) inner,
      )

  -- where memory ran out, what stood before stands in front
  pub kept_on_error : {X E : Type 0} {old new : Vec (code.Node S)} (added : List (Node C))
      → (r : Result X E) → IsErr r → StandsInFront content old new → Grows content r old new added
  kept_on_error added (Ok x) e p = absurd (true≢false (sym e))
  kept_on_error added (Err x) e p = p
