-- Two equal lists, each of two parts, have equal parts where the fronts are equally long.
use Rattle.std.proofs.Common.{◌≡◌, ◌∷◌, [], List, ◌++◌, length, None, refl, ap, ap₂}
use Rattle.std.proofs.Math.Nat.{suc_inj}
use Rattle.graphql_lexical.specs.Place.{Span}
use Rattle.graphql_nodes.specs.declared.kind.NodeKind.{NodeKind}
use Rattle.graphql_nodes.specs.Nodes.{Label, Node, over}

pub split : {A : Type 0} (us vs ws xs : List A) → length us ≡ length vs → us ++ ws ≡ vs ++ xs → (us ≡ vs) × (ws ≡ xs)
split [] [] ws xs l e = (refl, e)
split [] (v ∷ vs) ws xs l e = absurd (cc)
split (u ∷ us) [] ws xs l e = absurd (cc)
split (u ∷ us) (v ∷ vs) ws xs l e =
    let first : u ≡ v = cc in
    let others : us ++ ws ≡ vs ++ xs = cc in
    let h = split us vs ws xs (suc_inj l) others in
    (ap₂ (λ x l. x ∷ l) first h.0, h.1)

module _ {C : Type 0} where
  -- what two equal lists share that begin with a node and those of the parts in it
  pub record Shares (k k' : NodeKind) (p p' : Span) (l l' : Label) (us vs ws xs : List (Node C)) : Type 0 where
    pub kind : k ≡ k'
    pub span : p ≡ p'
    pub label : l ≡ l'
    pub inner : us ≡ vs
    pub rest : ws ≡ xs

  -- a node before those of the parts in it
  abbrev pub node_over : NodeKind → Span → Label → List (Node C) → Node C
  node_over k p l us = record { kind = k; span = p; label = l; content = None; descendants = length us }

  pub shares : (k k' : NodeKind) (p p' : Span) (l l' : Label) (us vs ws xs : List (Node C))
      → over k p l us ++ ws ≡ over k' p' l' vs ++ xs → Shares k k' p p' l l' us vs ws xs
  shares k k' p p' l l' us vs ws xs e =
      let same : node_over k p l us ≡ node_over k' p' l' vs = cc in
      let tail : us ++ ws ≡ vs ++ xs = cc in
      let h = split us vs ws xs (ap (λ n. n.descendants) same) tail in
      record {
        kind = ap (λ n. n.kind) same;
        span = ap (λ n. n.span) same;
        label = ap (λ n. n.label) same;
        inner = h.0;
        rest = h.1;
      }
