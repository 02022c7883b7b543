-- A device: the parts of a tree that one parse function passes to another, as the readers give them.
use Rattle.std.specs.Prelude.{ℕ, List, Option, option_map}
use Rattle.std.specs.Global.{Vec}
use Rattle.graphql_grammar.specs.Tokens.{Word}
use Rattle.graphql_grammar.specs.Tree.{Selections}
use Rattle.juniper_tokens.specs.declared.span.Spanning.{Spanning}
use Rattle.juniper_tree.specs.declared.ast.Selection.{Selection}
use Rattle.juniper_tree.specs.View.{view_located, view_selections}

-- an alias, if there is one, and the name, whose characters are found so
abbrev pub names_of : {W : Type 0} → (W → List ℕ) → Option (Spanning W) × Spanning W → Option Word × Word
names_of characters n = (option_map (view_located characters) n.0, view_located characters n.1)

module _ {S C : Type 0} (content : S → C) where
  abbrev pub view_whole_set : Vec (Selection S) → Selections C
  view_whole_set v = view_selections content v.items
