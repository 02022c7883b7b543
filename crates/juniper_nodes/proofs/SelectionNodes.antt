-- The nodes of selections, part by part.
use Rattle.std.proofs.Common.{◌≡◌, List, [], ◌∷◌, ◌++◌, map, Some, None, refl, ap}
use Rattle.std.specs.Prelude.{option_map}
use Rattle.std.specs.Global.{Vec}
use Rattle.graphql_nodes.specs.Nodes.{Node, Named, over, if_present, each, alias_nodes, arguments_nodes, directives_nodes, selection_nodes, selections_nodes, optional_nodes}
use Rattle.graphql_nodes.specs.declared.kind.NodeKind.TheVariants as kind
use Rattle.juniper_tokens.specs.Spans.{view_span}
use Rattle.juniper_tokens.specs.declared.span.Spanning.{Spanning}
use Rattle.juniper_tree.specs.declared.ast.Field.{Field}
use Rattle.juniper_tree.specs.declared.ast.Selection.{Selection}
use Rattle.juniper_tree.specs.View.{view_word, view_arguments, view_directives, view_selection}
use Rattle.juniper_tree.specs.View.{view_selections, view_field}

module _ {S C : Type 0} (content : S → C) where
  -- a field above these nodes of its selections
  abbrev pub field_over : Spanning (Field S) → List (Node C) → List (Node C)
  field_over f inner = over kind.Field (view_span f.span) (Named (view_word f.item.name))
      (if_present alias_nodes (option_map view_word f.item.alias)
      ++ (if_present arguments_nodes (option_map (view_arguments content) f.item.arguments)
      ++ (directives_nodes (view_directives content f.item.directives) ++ inner)))

  pub field_alone : (f : Spanning (Field S)) → f.item.selection_set ≡ None
      → selection_nodes (view_field content f) ≡ field_over f []
  unfolding selection_nodes selections_nodes optional_nodes
  field_alone f e = rw e refl

  pub field_above : (f : Spanning (Field S)) (v : Vec (Selection S)) → f.item.selection_set ≡ Some v
      → selection_nodes (view_field content f) ≡ field_over f (selections_nodes (view_selections content v.items))
  unfolding selection_nodes selections_nodes optional_nodes
  field_above f v e = rw e refl

  pub selections_in_row : (ss : List (Selection S))
      → selections_nodes (view_selections content ss) ≡ each selection_nodes (map (view_selection content) ss)
  unfolding selection_nodes selections_nodes optional_nodes each
  selections_in_row [] = refl
  selections_in_row (s ∷ ss) =
      ap (λ ns. selection_nodes (view_selection content s) ++ ns) (selections_in_row ss)
