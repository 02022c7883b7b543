-- What the views of a value and of a selection give, a case a line.
use Rattle.std.specs.Prelude.{◌≡◌, map, option_map, String, Vec}
use Rattle.std.specs.declared.alloc.Global.{Global}
use Rattle.graphql_grammar.specs.Tree as tree
use Rattle.graphql_grammar.specs.Tree.{Null, Scalar, Enum, Variable, ListOf, Object, items_of, fields_of}
use Rattle.juniper_tokens.specs.declared.span.Spanning.{Spanning}
use Rattle.juniper_tokens.specs.Spans.{view_span}
use Rattle.juniper_values.specs.View.{view}
use Rattle.juniper_values.specs.declared.input_value.InputValue.{InputValue}
use Rattle.juniper_values.specs.declared.input_value.InputValue.TheVariants as value
use Rattle.juniper_tree.specs.declared.ast.Field.{Field}
use Rattle.juniper_tree.specs.declared.ast.FragmentSpread.{FragmentSpread}
use Rattle.juniper_tree.specs.declared.ast.InlineFragment.{InlineFragment}
use Rattle.juniper_tree.specs.declared.ast.Selection.TheVariants as selection
use Rattle.juniper_tree.specs.View.{text_of, view_value, view_object_field, view_selection, view_selections, view_set, view_word, view_arguments, view_directives}

module _ {S C : Type 0} (content : S → C) where
  -- the view of a value, variant by variant
  pub record SeesValues : Type 0 where
    pub null : view content value.Null ≡ Null
    pub scalar : (s : S) → view content (value.Scalar s) ≡ Scalar (content s)
    pub enum_value : (name : String Global) → view content (value.Enum name) ≡ Enum (text_of name)
    pub variable : (name : String Global) → view content (value.Variable name) ≡ Variable (text_of name)
    pub list : (v : Vec (Spanning (InputValue S)) Global) → view content (value.List v) ≡ ListOf (items_of (map (view_value content) v.items))
    pub object : (v : Vec (Spanning (String Global) × Spanning (InputValue S)) Global)
        → view content (value.Object v) ≡ Object (fields_of (map (view_object_field content) v.items))

  -- the view of a selection, variant by variant
  pub record SeesSelections : Type 0 where
    pub field : (f : Spanning (Field S)) → view_selection content (selection.Field f) ≡ tree.Field (option_map view_word f.item.alias) (view_word f.item.name)
        (option_map (view_arguments content) f.item.arguments) (view_directives content f.item.directives) (view_set content f.item.selection_set) (view_span f.span)
    pub fragment_spread : (f : Spanning (FragmentSpread S)) → view_selection content (selection.FragmentSpread f)
        ≡ tree.FragmentSpread (view_word f.item.name) (view_directives content f.item.directives) (view_span f.span)
    pub inline_fragment : (f : Spanning (InlineFragment S)) → view_selection content (selection.InlineFragment f)
        ≡ tree.InlineFragment (option_map view_word f.item.type_condition) (view_directives content f.item.directives) (view_selections content f.item.selection_set.items) (view_span f.span)
