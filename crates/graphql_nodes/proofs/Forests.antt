-- The nodes of every tree are a forest.
use Rattle.std.proofs.Common.{◌≡◌, ◌≤◌, ◌∷◌, [], List, ◌++◌, length, Option, Some, None, refl, sym, ap, ap₂, ◌∙◌, append_assoc, append-nil, length-append, arith, ◌⊎◌, inl, inr}
use Rattle.graphql_lexical.specs.Place.{Span}
use Rattle.graphql_grammar.specs.Tokens.{Located, Word}
use Rattle.graphql_grammar.specs.Tree as tree
use Rattle.graphql_grammar.specs.Tree.{Value, Items, no_items, item, ObjectFields, no_fields, object_field, TypeRef, Argument, Arguments, Directive, Directives, VariableDefinition, Variables, Selection, Selections, no_selections, selection, OptionalSelections, absent, present, Definition}
use Rattle.graphql_nodes.specs.declared.kind.NodeKind.{NodeKind}
use Rattle.graphql_nodes.specs.Nodes.{Node, Label, over, if_present, each, value_nodes, items_nodes, fields_nodes, argument_nodes, arguments_nodes, directive_nodes, directives_nodes, variable_nodes, variables_nodes, alias_nodes, selection_nodes, optional_nodes, selections_nodes, definition_nodes, document_nodes, nodes_at, type_nodes}
use Rattle.graphql_nodes.proofs.Splits.{node_over}
use Rattle.graphql_nodes.specs.Forests.{IsForest, no_node, node_first}

module _ {C : Type 0} where
  join : (us vs : List (Node C)) → IsForest us → IsForest vs → IsForest (us ++ vs)
  join us vs no_node k = k
  join us vs (node_first n inner rest e d h i) k =
      node_first n inner (rest ++ vs) (ap (λ l. l ++ vs) e ∙ ap (λ l. n ∷ l) (append_assoc inner rest vs)) d h
      (join rest vs i k)

  over_forest : (k : NodeKind) (p : Span) (l : Label) (inner : List (Node C)) → IsForest inner
      → IsForest (over k p l inner)
  over_forest k p l inner h =
      node_first (node_over k p l inner) inner [] (ap (λ ns. node_over k p l inner ∷ ns) (sym (append-nil inner))) refl
      h no_node

  -- ---- the nodes of each part

  if_present_forest : {A : Type 0} (nodes : A → List (Node C)) → ((x : A) → IsForest (nodes x)) → (a : Option A)
      → IsForest (if_present nodes a)
  if_present_forest nodes f None = no_node
  if_present_forest nodes f (Some x) = f x

  each_forest : {A : Type 0} (nodes : A → List (Node C)) → ((x : A) → IsForest (nodes x)) → (xs : List A)
      → IsForest (each nodes xs)
  unfolding each
  each_forest nodes f [] = no_node
  each_forest nodes f (x ∷ xs) = join (nodes x) (each nodes xs) (f x) (each_forest nodes f xs)

  mutual
    unfolding nodes_at

    forest_at : (v : Value C) (p : Span) → IsForest (nodes_at v p)
    forest_at tree.Null p = over_forest _ _ _ [] no_node
    forest_at (tree.Scalar c) p = node_first _ [] [] refl refl no_node no_node
    forest_at (tree.Enum w) p = over_forest _ _ _ [] no_node
    forest_at (tree.Variable w) p = over_forest _ _ _ [] no_node
    forest_at (tree.ListOf vs) p = over_forest _ _ _ (items_nodes vs) (items_forest vs)
    forest_at (tree.Object fs) p = over_forest _ _ _ (fields_nodes fs) (fields_forest fs)

    items_forest : (vs : Items C) → IsForest (items_nodes vs)
    items_forest no_items = no_node
    items_forest (item v p vs) = join (nodes_at v p) (items_nodes vs) (forest_at v p) (items_forest vs)

    fields_forest : (fs : ObjectFields C) → IsForest (fields_nodes fs)
    fields_forest no_fields = no_node
    fields_forest (object_field w v p fs) =
        join _ (fields_nodes fs) (over_forest _ _ _ (nodes_at v p) (forest_at v p)) (fields_forest fs)

  pub value_forest : (v : Located (Value C)) → IsForest (value_nodes v)
  value_forest v = forest_at v.item v.span

  argument_forest : (a : Argument C) → IsForest (argument_nodes a)
  unfolding argument_nodes
  argument_forest a = over_forest _ _ _ (value_nodes a.value) (value_forest a.value)

  arguments_forest : (a : Arguments C) → IsForest (arguments_nodes a)
  unfolding arguments_nodes
  arguments_forest a = over_forest _ _ _ (each argument_nodes a.item)
      (each_forest argument_nodes argument_forest a.item)

  directive_forest : (d : Located (Directive C)) → IsForest (directive_nodes d)
  unfolding directive_nodes
  directive_forest d =
      over_forest _ _ _ (if_present arguments_nodes d.item.arguments)
      (if_present_forest arguments_nodes arguments_forest d.item.arguments)

  directives_forest : (ds : Directives C) → IsForest (directives_nodes ds)
  unfolding directives_nodes
  directives_forest ds = if_present_forest (each directive_nodes) (each_forest directive_nodes directive_forest) ds

  pub type_forest : (type : Located TypeRef) → IsForest {C = C} (type_nodes type)
  type_forest type = over_forest _ _ _ [] no_node

  variable_forest : (v : VariableDefinition C) → IsForest (variable_nodes v)
  unfolding variable_nodes
  variable_forest v =
      let default = if_present_forest value_nodes value_forest v.default in
      let tail = join (if_present value_nodes v.default) (directives_nodes v.directives) default
      (directives_forest v.directives) in
      over_forest _ _ _ _ (join (type_nodes v.of_type) _ (type_forest v.of_type) tail)

  variables_forest : (v : Variables C) → IsForest (variables_nodes v)
  unfolding variables_nodes
  variables_forest v = over_forest _ _ _ (each variable_nodes v.item)
      (each_forest variable_nodes variable_forest v.item)

  alias_forest : (w : Word) → IsForest {C = C} (alias_nodes w)
  unfolding alias_nodes
  alias_forest w = over_forest _ _ _ [] no_node

  mutual
    unfolding selection_nodes

    selection_forest : (s : Selection C) → IsForest (selection_nodes s)
    selection_forest (tree.Field alias name arguments ds ss p) =
        let directives = join (directives_nodes ds) (optional_nodes ss) (directives_forest ds) (optional_forest ss) in
        let tail = join (if_present arguments_nodes arguments) _
        (if_present_forest arguments_nodes arguments_forest arguments) directives in
        over_forest _ _ _ _ (join (if_present alias_nodes alias) _ (if_present_forest alias_nodes alias_forest alias)
        tail)
    selection_forest (tree.FragmentSpread name ds p) = over_forest _ _ _ (directives_nodes ds) (directives_forest ds)
    selection_forest (tree.InlineFragment condition ds ss p) =
        over_forest _ _ _ _ (join (directives_nodes ds) (selections_nodes ss) (directives_forest ds)
        (selections_forest ss))

    optional_forest : (ss : OptionalSelections C) → IsForest (optional_nodes ss)
    optional_forest absent = no_node
    optional_forest (present ss) = selections_forest ss

    selections_forest : (ss : Selections C) → IsForest (selections_nodes ss)
    selections_forest no_selections = no_node
    selections_forest (selection s ss) =
        join (selection_nodes s) (selections_nodes ss) (selection_forest s) (selections_forest ss)

  definition_forest : (d : Definition C) → IsForest (definition_nodes d)
  unfolding definition_nodes
  definition_forest (tree.Operation type name variables ds ss p) =
      let tail = join (directives_nodes ds) (selections_nodes ss) (directives_forest ds) (selections_forest ss) in
      over_forest _ _ _ _ (join (if_present variables_nodes variables) _
      (if_present_forest variables_nodes variables_forest variables) tail)
  definition_forest (tree.Fragment name condition ds ss p) =
      over_forest _ _ _ _ (join (directives_nodes ds) (selections_nodes ss) (directives_forest ds)
      (selections_forest ss))

  pub document_forest : (ds : List (Definition C)) → IsForest (document_nodes ds)
  unfolding document_nodes
  document_forest ds = each_forest definition_nodes definition_forest ds

  -- ---- where descendants stand

  -- A node of two lists in a row is one of the first, or of the second.
  which : (us vs before after : List (Node C)) (n : Node C) → us ++ vs ≡ before ++ n ∷ after
      → ((middle : List (Node C)) × (us ≡ before ++ n ∷ middle) × (after ≡ middle ++ vs))
      ⊎ ((middle : List (Node C)) × (vs ≡ middle ++ n ∷ after))
  which [] vs before after n e = inr (before, e)
  which (u ∷ us) vs [] after n e =
      let first : u ≡ n = cc in
      let rest : us ++ vs ≡ after = cc in
      inl (us, ap (λ x. x ∷ us) first, sym rest)
  which (u ∷ us) vs (b ∷ bs) after n e =
      let first : u ≡ b = cc in
      let rest : us ++ vs ≡ bs ++ n ∷ after = cc in
      longer u b first (which us vs bs after n rest)
    where
      longer : (u b : Node C) → u ≡ b
          → ((middle : List (Node C)) × (us ≡ bs ++ n ∷ middle) × (after ≡ middle ++ vs)) ⊎
          ((middle : List (Node C)) × (vs ≡ middle ++ n ∷ after))
          → ((middle : List (Node C)) × (u ∷ us ≡ b ∷ bs ++ n ∷ middle) × (after ≡ middle ++ vs)) ⊎
          ((middle : List (Node C)) × (vs ≡ middle ++ n ∷ after))
      longer u b first (inl (middle, e, f)) = inl (middle, ap₂ (λ x l. x ∷ l) first e, f)
      longer u b first (inr h) = inr h

  pub descendants_follow : (nodes before after : List (Node C)) (n : Node C) → IsForest nodes
      → nodes ≡ before ++ n ∷ after → n.descendants ≤ length after
  descendants_follow nodes [] after n no_node e = absurd (cc)
  descendants_follow nodes (b ∷ bs) after n no_node e = absurd (cc)
  descendants_follow nodes [] after n (node_first m inner rest f d h i) e =
      let whole : m ∷ inner ++ rest ≡ n ∷ after = sym f ∙ e in
      let first : m ≡ n = cc in
      let tail : inner ++ rest ≡ after = cc in
      omega (arith, ap (λ x. x.descendants) first, d, ap length tail, length-append inner rest)
  descendants_follow nodes (b ∷ bs) after n (node_first m inner rest f d h i) e =
      let whole : m ∷ inner ++ rest ≡ b ∷ bs ++ n ∷ after = sym f ∙ e in
      let tail : inner ++ rest ≡ bs ++ n ∷ after = cc in
      cases (λ middle p. descendants_follow inner bs middle n h p)
      (λ middle p. descendants_follow rest middle after n i p) (which inner rest bs after n tail)
    where
      cases : ((middle : List (Node C)) → inner ≡ bs ++ n ∷ middle → n.descendants ≤ length middle)
          → ((middle : List (Node C)) → rest ≡ middle ++ n ∷ after → n.descendants ≤ length after)
          → ((middle : List (Node C)) × (inner ≡ bs ++ n ∷ middle) × (after ≡ middle ++ rest))
          ⊎ ((middle : List (Node C)) × (rest ≡ middle ++ n ∷ after)) → n.descendants ≤ length after
      cases first second (inl (middle, p, q)) =
          omega (arith, first middle p, ap length q, length-append middle rest)
      cases first second (inr (middle, p)) = second middle p
