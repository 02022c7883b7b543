-- Lists that grow at their end, and a node that counts what has come after it.
use Rattle.std.specs.Global.{Vec}
use Rattle.std.specs.Prelude.{Result, Ok, Err, IsErr}
use Rattle.std.proofs.Common.{true≢false, ◌≡◌, ◌∙◌, ℕ, ◌-◌, ◌<◌, List, [], ◌∷◌, ◌++◌, length, map, get_or, None, refl, sym, ap, ap₂, append_assoc, append-nil, arith}
use Rattle.std.proofs.Math.ListN.{set}
use Rattle.std.proofs.Math.Seq.{set-append_seam}
use Rattle.std.proofs.lemmas.List.{length-map, length-append, map-set, get_or_at, get_or-map}
use Rattle.graphql_lexical.specs.Place.{Span}
use Rattle.graphql_nodes.specs.Nodes.{Node, Label, over}
use Rattle.graphql_nodes.specs.declared.kind.NodeKind.{NodeKind}
use Rattle.juniper_nodes.specs.declared.node.Node as code
use Rattle.juniper_nodes.specs.NodeViews.{view_node, view_nodes, GainsBy, StandsBy, GrowsBy, Gains, Grows, StandsInFront, CountsInner}

-- where a list is seen as a middle between two others, the item at the middle's place is seen as the middle
seen_at : {A B : Type 0} (view : A → B) (xs : List A) (x : A) (place : ℕ) (before inner : List B) (middle : B)
    → x ≡ get_or xs place x → length before ≡ place → place < length xs → map view xs ≡ before ++ (middle ∷ inner)
    → view x ≡ middle
seen_at view xs x place before inner middle r e lt h =
    ap view r ∙ sym (get_or-map view xs place x middle lt) ∙ ap (λ ys. get_or ys place middle) h
    ∙ get_or_at before middle inner middle place e

-- lists of any type whose items are seen as nodes
module _ {N C : Type 0} (see : N → Node C) where
  -- by some nodes, and then by others
  grown_by : {old mid new : Vec N} {xs ys : List (Node C)}
      → GainsBy see old mid xs → GainsBy see mid new ys → GainsBy see old new (xs ++ ys)
  grown_by p q = record { nodes = q.nodes ∙ rw (p.nodes, append_assoc) refl }

  -- by some nodes, and then by those that had come when memory ran out
  in_front_by : {old mid new : Vec N} {xs : List (Node C)}
      → GainsBy see old mid xs → StandsBy see mid new → StandsBy see old new
  in_front_by p q = record { added = _; gains = grown_by p q.gains }

  -- where memory ran out
  pub on_error_by : {X E : Type 0} {old mid new : Vec N} {xs : List (Node C)} (added : List (Node C))
      → (r : Result X E) → IsErr r → GainsBy see old mid xs → StandsBy see mid new → GrowsBy see r old new added
  on_error_by added (Ok x) e p q = absurd (true≢false (sym e))
  on_error_by added (Err x) e p q = in_front_by p q

-- lists of the code's nodes
module _ {S C : Type 0} (content : S → C) where
  -- the node at a place, with the number of the nodes after it
  pub counted : (xs : List (code.Node S)) (x : code.Node S) (place count : ℕ)
      → (before inner : List (Node C)) (node : Node C)
      → x ≡ get_or xs place x → place < length xs → count ≡ length xs - place - 1
      → length before ≡ place → map (view_node content) xs ≡ before ++ (node ∷ inner)
      → map (view_node content) (set xs place (record x { descendants = count }))
      ≡ before ++ (record node { descendants = length inner } ∷ inner)
  counted xs x place count before inner node r lt n e h =
      let view = view_node content in
      let y = record x { descendants = count } in
      let all : count ≡ length inner =
      omega (arith, length-map xs view, ap length h, length-append before (node ∷ inner)) in
      let seen : view x ≡ node = seen_at view xs x place before inner node r e lt h in
      let put : map view (set xs place y) ≡ before ++ (view y ∷ inner) =
      map-set view xs place y ∙ rw (h, ← e) (set-append_seam before node inner (view y)) in
      let with_count = λ (n : Node C) (d : ℕ). record n { descendants = d } in
      put ∙ ap (λ (n : Node C). before ++ (n ∷ inner)) (ap₂ with_count seen all)

  -- by some nodes, and then by others
  pub grown : {old mid new : Vec (code.Node S)} {xs ys : List (Node C)}
      → Gains content old mid xs → Gains content mid new ys → Gains content old new (xs ++ ys)
  grown p q = grown_by (view_node content) p q

  -- by nothing
  pub grown_none : (v : Vec (code.Node S)) → Gains content v v []
  grown_none v = record { nodes = sym (append-nil (view_nodes content v)) }

  -- by some nodes, and then by those that had come when memory ran out
  pub grown_in_front : {old mid new : Vec (code.Node S)} {xs : List (Node C)}
      → Gains content old mid xs → StandsInFront content mid new → StandsInFront content old new
  grown_in_front p q = in_front_by (view_node content) p q

  -- where memory ran out
  pub grown_on_error : {X E : Type 0} {old mid new : Vec (code.Node S)} {xs : List (Node C)} (added : List (Node C))
      → (r : Result X E) → IsErr r → Gains content old mid xs → StandsInFront content mid new
      → Grows content r old new added
  grown_on_error added r e p q = on_error_by (view_node content) added r e p q

  -- by a node, by those of the parts in it, and then by their number
  pub closed : {old opened filled new : Vec (code.Node S)} {place : ℕ}
      → {kind : NodeKind} {span : Span} {label : Label} {inner : List (Node C)}
      → (place ≡ length (view_nodes content old)) × Gains content old opened (over kind span label [])
      → Gains content opened filled inner → CountsInner content filled new place
      → Gains content old new (over kind span label inner)
  closed {old} {kind = kind} {span = span} {label = label} {inner = inner} p q r = record {
    nodes =
        let node : Node C = record { kind = kind; span = span; label = label; content = None; descendants = 0 } in
        r.nodes (view_nodes content old) inner node (sym p.0) (q.nodes ∙ rw (p.1.nodes, append_assoc) refl);
  }
