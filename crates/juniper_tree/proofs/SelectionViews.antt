-- The view of a selection, by its variant.
use Rattle.std.proofs.Common.{◌≡◌, List, [], ◌∷◌, map, Option, Some, None, refl, ap, ◌∙◌}
use Rattle.std.specs.Prelude.{option_map}
use Rattle.std.specs.Global.{Vec}
use Rattle.graphql_grammar.specs.Tree as tree
use Rattle.graphql_grammar.specs.Tree.{selections_of}
use Rattle.juniper_tokens.specs.Spans.{view_span}
use Rattle.juniper_tokens.specs.declared.span.Spanning.{Spanning}
use Rattle.juniper_tree.specs.declared.ast.Selection.{Selection, Row_of-Selection, end_of-Selection, more_of-Selection, items-the_row-Selection, items_hidden-the_row-Selection-0, back-Field-selection_set}
use Rattle.juniper_tree.specs.declared.ast.Selection.TheBlock.{hidden-the_row-Selection-0}
use Rattle.juniper_tree.specs.declared.ast.Selection.TheVariants.{Field, InlineFragment}
use Rattle.juniper_tree.specs.declared.ast.Field.{Field as FieldOf}
use Rattle.juniper_tree.specs.declared.ast.InlineFragment.{InlineFragment as InlineOf}
use Rattle.juniper_tree.specs.View.{view_word, view_arguments, view_directives, view_selection, view_held, view_row, view_selections, view_set, view_field, view_inline}

module _ {S C : Type 0} (content : S → C) where
  -- the selections of a row are those of its list
  row_is : (n : _) (row : Row_of-Selection S n)
      → view_row content row ≡ view_selections content (items-the_row-Selection S n row)
  row_is n end_of-Selection = refl
  row_is n (more_of-Selection {n = m} s rest) = ap (tree.selection (view_selection content s)) (row_is m rest)

  held_is : (selections : Option (Vec (Selection S)))
      → view_held content (back-Field-selection_set S selections) ≡ view_set content selections
  held_is None = refl
  held_is (Some v) = ap tree.present (row_is _ (hidden-the_row-Selection-0 S v)
      ∙ ap (view_selections content) (items_hidden-the_row-Selection-0 S v))

  pub view_of_field : (f : Spanning (FieldOf S)) → view_selection content (Field f) ≡ view_field content f
  view_of_field f = ap (λ (s : tree.OptionalSelections C). tree.Field (option_map view_word f.item.alias)
      (view_word f.item.name) (option_map (view_arguments content) f.item.arguments)
      (view_directives content f.item.directives) s (view_span f.span)) (held_is f.item.selection_set)

  pub view_of_inline : (f : Spanning (InlineOf S)) → view_selection content (InlineFragment f) ≡ view_inline content f
  view_of_inline f = ap (λ (s : tree.Selections C). tree.InlineFragment (option_map view_word f.item.type_condition)
      (view_directives content f.item.directives) s (view_span f.span))
      (row_is _ (hidden-the_row-Selection-0 S f.item.selection_set)
      ∙ ap (view_selections content) (items_hidden-the_row-Selection-0 S f.item.selection_set))

  -- a list of selections, seen one by one
  pub selections_are : (ss : List (Selection S))
      → selections_of (map (view_selection content) ss) ≡ view_selections content ss
  selections_are [] = refl
  selections_are (s ∷ ss) = ap (tree.selection (view_selection content s)) (selections_are ss)
