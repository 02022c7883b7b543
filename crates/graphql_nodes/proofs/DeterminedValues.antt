-- The nodes of a value tell it, whatever stands after them.
use Rattle.std.proofs.Common.{◌≡◌, [], List, ◌++◌, Some, refl, sym, ap, ap₂, ◌∙◌}
use Rattle.graphql_lexical.specs.Place.{Span}
use Rattle.graphql_grammar.specs.Tokens.{Text, Word, Located}
use Rattle.graphql_grammar.specs.Tree as tree
use Rattle.graphql_grammar.specs.Tree.{Value, Items, no_items, item, ObjectFields, no_fields, object_field}
use Rattle.graphql_nodes.specs.Nodes.{Node, Named, named, scalar_node, value_nodes, items_nodes, fields_nodes, nodes_at}
use Rattle.graphql_nodes.proofs.Splits.{shares}
use Rattle.graphql_nodes.proofs.Heads.{first_kind, kind_of_value, value_first}

abbrev word : Text → Span → Word
word a p = record { item = a; span = p }

name_determined : (a b : Text) (p q : Span) → named a p ≡ named b q → a ≡ b
name_determined a b p q e = let h : word a p ≡ word b q = cc in ap (λ w. w.item) h

module _ {C : Type 0} where
  -- no nodes are no value's
  some_nodes : (v : Value C) (p : Span) (r : List (Node C)) → [] ≡ nodes_at v p ++ r → ⊥
  some_nodes v p r e = let k = ap first_kind e ∙ value_first v p r in cc

  mutual
    unfolding nodes_at

    determined_at : (v w : Value C) (p q : Span) (r s : List (Node C)) → nodes_at v p ++ r ≡ nodes_at w q ++ s
        → (v ≡ w) × (p ≡ q) × (r ≡ s)
    determined_at tree.Null tree.Null p q r s e =
        let h = shares _ _ _ _ _ _ [] [] r s e in (refl, h.span, h.rest)
    determined_at (tree.Scalar c) (tree.Scalar d) p q r s e =
        let first : scalar_node c p ≡ scalar_node d q = cc in
        let content : Some c ≡ Some d = ap (λ n. n.content) first in
        let same : c ≡ d = cc in
        let rest : r ≡ s = cc in
        (ap tree.Scalar same, ap (λ n. n.span) first, rest)
    determined_at (tree.Enum a) (tree.Enum b) p q r s e =
        let h = shares _ _ _ _ _ _ [] [] r s e in (ap tree.Enum (name_determined a b p q h.label), h.span, h.rest)
    determined_at (tree.Variable a) (tree.Variable b) p q r s e =
        let h = shares _ _ _ _ _ _ [] [] r s e in (ap tree.Variable (name_determined a b p q h.label), h.span, h.rest)
    determined_at (tree.ListOf vs) (tree.ListOf ws) p q r s e =
        let h = shares _ _ _ _ _ _ (items_nodes vs) (items_nodes ws) r s e in
        (ap tree.ListOf (items_determined vs ws h.inner), h.span, h.rest)
    determined_at (tree.Object fs) (tree.Object gs) p q r s e =
        let h = shares _ _ _ _ _ _ (fields_nodes fs) (fields_nodes gs) r s e in
        (ap tree.Object (fields_determined fs gs h.inner), h.span, h.rest)
    determined_at v w p q r s e =
        let k : Some (kind_of_value v) ≡ Some (kind_of_value w) =
        sym (value_first v p r) ∙ (ap first_kind e ∙ value_first w q s) in
        absurd (cc)

    items_determined : (vs ws : Items C) → items_nodes vs ≡ items_nodes ws → vs ≡ ws
    items_determined no_items no_items e = refl
    items_determined no_items (item w q ws) e = absurd (some_nodes w q (items_nodes ws) e)
    items_determined (item v p vs) no_items e = absurd (some_nodes v p (items_nodes vs) (sym e))
    items_determined (item v p vs) (item w q ws) e =
        let h = determined_at v w p q (items_nodes vs) (items_nodes ws) e in
        ap₂ (λ x y. item x y vs) h.0 h.1 ∙ ap (item w q) (items_determined vs ws h.2)

    fields_determined : (fs gs : ObjectFields C) → fields_nodes fs ≡ fields_nodes gs → fs ≡ gs
    fields_determined no_fields no_fields e = refl
    fields_determined no_fields (object_field b w q gs) e = absurd (cc)
    fields_determined (object_field a v p fs) no_fields e = absurd (cc)
    fields_determined (object_field a v p fs) (object_field b w q gs) e =
        let h = shares _ _ _ _ _ _ (nodes_at v p) (nodes_at w q) (fields_nodes fs) (fields_nodes gs) e in
        let label : Named a ≡ Named b = h.label in
        let key : a ≡ b = cc in
        let value = determined_at v w p q [] [] (ap (λ l. l ++ []) h.inner) in
        let others = fields_determined fs gs h.rest in
        ap (λ k. object_field k v p fs) key ∙ ap₂ (λ x y. object_field b x y fs) value.0 value.1
        ∙ ap (object_field b w q) others

  pub value_determined : (v w : Located (Value C)) (r s : List (Node C)) → value_nodes v ++ r ≡ value_nodes w ++ s
      → (v ≡ w) × (r ≡ s)
  value_determined v w r s e =
      let h = determined_at v.item w.item v.span w.span r s e in
      (ap₂ (λ x p. record { item = x; span = p }) h.0 h.1, h.2)
