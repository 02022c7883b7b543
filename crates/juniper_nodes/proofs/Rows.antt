-- The nodes of parts in a row, over a loop that adds those of one part a turn.
use Rattle.std.proofs.Common.{◌≡◌, ◌∙◌, ℕ, ◌+◌, ◌<◌, ◌≤◌, List, [], ◌∷◌, ◌++◌, length, take, map, get_or, flat_map, refl, sym, ap, append_assoc, append-nil, add-one}
use Rattle.std.specs.Global.{Vec}
use Rattle.std.proofs.lemmas.List.{take_all}
use Rattle.std.proofs.Math.Seq.{take-suc}
use Rattle.graphql_nodes.specs.Nodes.{Node, each}
use Rattle.juniper_nodes.specs.declared.node.Node as code
use Rattle.juniper_nodes.specs.NodeViews.{view_nodes, Gains}
use Rattle.juniper_nodes.proofs.Growth.{grown_none}

-- each part is seen first
pub each_seen : {A B N : Type 0} (nodes : B → List N) (view : A → B) (xs : List A)
    → flat_map (λ x. nodes (view x)) xs ≡ each nodes (map view xs)
unfolding each
each_seen nodes view [] = refl
each_seen nodes view (x ∷ xs) = ap (λ ns. nodes (view x) ++ ns) (each_seen nodes view xs)

module _ {S C A B : Type 0} (content : S → C) (nodes : B → List (Node C)) (view : A → B) where
  -- the nodes so far are those of the parts so far
  abbrev pub Goes : Vec (code.Node S) → Vec (code.Node S) → List A → ℕ → Type 0
  Goes old now xs i = Gains content old now (each nodes (map view (take i xs)))

  one_more : (xs : List A) (x : A) → each nodes (map view (xs ++ x ∷ [])) ≡ each nodes (map view xs) ++ nodes (view x)
  unfolding each
  one_more [] x = append-nil (nodes (view x))
  one_more (y ∷ ys) x =
      ap (λ ns. nodes (view y) ++ ns) (one_more ys x)
      ∙ sym (append_assoc (nodes (view y)) (each nodes (map view ys)) (nodes (view x)))

  -- before the first part
  pub no_part_yet : (v : Vec (code.Node S)) (xs : List A) → Goes v v xs 0
  unfolding each
  no_part_yet v xs = grown_none content v

  -- one part's nodes more
  pub next_part : (old now new : Vec (code.Node S)) (xs : List A) (i : ℕ) (x : A)
      → i < length xs → x ≡ get_or xs i x → Goes old now xs i → Gains content now new (nodes (view x))
      → Goes old new xs (i + 1)
  next_part old now new xs i x lt r goes gains =
      let done = each nodes (map view (take i xs)) in
      let longer : take (i + 1) xs ≡ take i xs ++ x ∷ [] =
      ap (λ k. take k xs) (add-one i) ∙ (take-suc xs i x lt ∙ ap (λ (y : A). take i xs ++ y ∷ []) (sym r)) in
      record {
        nodes =
            gains.nodes ∙ (ap (λ ns. ns ++ nodes (view x)) goes.nodes
            ∙ (append_assoc (view_nodes content old) done (nodes (view x))
            ∙ ap (λ ns. view_nodes content old ++ ns) (sym (ap (λ ys. each nodes (map view ys)) longer
            ∙ one_more (take i xs) x))));
      }

  pub no_part : (old now : Vec (code.Node S)) (xs : List A) (i : ℕ)
      → length xs ≤ i → Goes old now xs i → Gains content old now (each nodes (map view xs))
  no_part old now xs i le goes = record {
    nodes = goes.nodes ∙ ap (λ ys. view_nodes content old ++ each nodes (map view ys)) (take_all i xs le);
  }
