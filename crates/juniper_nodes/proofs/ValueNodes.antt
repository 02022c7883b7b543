-- The nodes of values, variant by variant.
use Rattle.std.proofs.Common.{◌≡◌, ◌∙◌, List, [], ◌∷◌, ◌++◌, map, String, Vec, Global, refl, ap}
use Rattle.graphql_grammar.specs.Tokens.{Located, Word}
use Rattle.graphql_grammar.specs.Tree.{Value, items_of, fields_of}
use Rattle.graphql_nodes.specs.Nodes.{Node, Unnamed, Named, named, over, scalar_node, each, nodes_at, value_nodes, items_nodes, fields_nodes}
use Rattle.graphql_nodes.specs.declared.kind.NodeKind.TheVariants as kind
use Rattle.juniper_tokens.specs.Spans.{view_span}
use Rattle.juniper_tokens.specs.declared.span.Spanning.{Spanning}
use Rattle.juniper_values.specs.View.{view}
use Rattle.juniper_values.specs.declared.input_value.InputValue.{InputValue}
use Rattle.juniper_values.specs.declared.input_value.InputValue.TheVariants as V
use Rattle.juniper_tree.specs.View.{text_of, view_value, view_object_field}
use Rattle.juniper_tree.specs.Cases.{SeesValues}

-- the nodes of an object's field
abbrev pub field_nodes : {C : Type 0} → Word × Located (Value C) → List (Node C)
field_nodes field = over kind.ObjectField field.0.span (Named field.0) (value_nodes field.1)

pub items_in_row : {C : Type 0} (vs : List (Located (Value C))) → items_nodes (items_of vs) ≡ each value_nodes vs
unfolding nodes_at items_nodes fields_nodes each
items_in_row [] = refl
items_in_row (v ∷ vs) = ap (λ ns. value_nodes v ++ ns) (items_in_row vs)

pub fields_in_row : {C : Type 0} (fs : List (Word × Located (Value C)))
    → fields_nodes (fields_of fs) ≡ each field_nodes fs
unfolding nodes_at items_nodes fields_nodes each
fields_in_row [] = refl
fields_in_row (f ∷ fs) = ap (λ ns. field_nodes f ++ ns) (fields_in_row fs)

module _ {S C : Type 0} (content : S → C) (sees : SeesValues content) where
  abbrev nodes_of : Spanning (InputValue S) → List (Node C)
  nodes_of x = value_nodes (view_value content x)

  seen : (x : Spanning (InputValue S)) (i : InputValue S) (v : Value C)
      → x.item ≡ i → view content i ≡ v → nodes_of x ≡ nodes_at v (view_span x.span)
  seen x i v e f = ap (λ j. nodes_at (view content j) (view_span x.span)) e ∙ ap (λ w. nodes_at w (view_span x.span)) f

  pub null-nodes : (x : Spanning (InputValue S)) → x.item ≡ V.Null
      → nodes_of x ≡ over kind.Null (view_span x.span) Unnamed []
  unfolding nodes_at items_nodes fields_nodes
  null-nodes x e = seen x _ _ e sees.null

  pub scalar-nodes : (x : Spanning (InputValue S)) (s : S) → x.item ≡ V.Scalar s
      → nodes_of x ≡ scalar_node (content s) (view_span x.span) ∷ []
  unfolding nodes_at items_nodes fields_nodes
  scalar-nodes x s e = seen x _ _ e (sees.scalar s)

  pub enum-nodes : (x : Spanning (InputValue S)) (name : String Global) → x.item ≡ V.Enum name
      → nodes_of x ≡ over kind.Enum (view_span x.span) (named (text_of name) (view_span x.span)) []
  unfolding nodes_at items_nodes fields_nodes
  enum-nodes x name e = seen x _ _ e (sees.enum_value name)

  pub variable-nodes : (x : Spanning (InputValue S)) (name : String Global) → x.item ≡ V.Variable name
      → nodes_of x ≡ over kind.Variable (view_span x.span) (named (text_of name) (view_span x.span)) []
  unfolding nodes_at items_nodes fields_nodes
  variable-nodes x name e = seen x _ _ e (sees.variable name)

  pub list-nodes : (x : Spanning (InputValue S)) (v : Vec (Spanning (InputValue S)) Global) → x.item ≡ V.List v
      → nodes_of x ≡ over kind.List (view_span x.span) Unnamed (items_nodes
      (items_of (map (view_value content) v.items)))
  unfolding nodes_at items_nodes fields_nodes
  list-nodes x v e = seen x _ _ e (sees.list v)

  pub object-nodes : (x : Spanning (InputValue S))
      → (v : Vec (Spanning (String Global) × Spanning (InputValue S)) Global) → x.item ≡ V.Object v
      → nodes_of x ≡ over kind.Object (view_span x.span) Unnamed
      (fields_nodes (fields_of (map (view_object_field content) v.items)))
  unfolding nodes_at items_nodes fields_nodes
  object-nodes x v e = seen x _ _ e (sees.object v)
