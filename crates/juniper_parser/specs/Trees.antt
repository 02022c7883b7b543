-- What is built while juniper's tree is built: what is seen as the part.
use Rattle.std.specs.Prelude.{◌≡◌, List, Option}
use Rattle.std.specs.Global.{Vec}
use Rattle.graphql_grammar.specs.Tree as tree
use Rattle.juniper_tokens.specs.declared.span.Spanning.{Spanning}
use Rattle.juniper_tree.specs.declared.ast.Directive.{Directive}
use Rattle.juniper_tree.specs.declared.ast.Selection.{Selection}
use Rattle.juniper_parser.specs.Building.{BuildsList, BuildsOptional, BuildsOptionalSet, BuildsSet}
use Rattle.juniper_tree.specs.View.{view_directive, view_selection}

abbrev pub Shows : {B X A : Type 0} → (X → A) → B → B → X → A → Type 0
Shows view old new x part = view x ≡ part

abbrev pub ShowsEach : {B X A : Type 0} → (X → A) → B → B → Vec X → List A → Type 0
ShowsEach view = BuildsList (Shows view) (λ xs. xs.items)

module _ {B S C : Type 0} (content : S → C) where
  abbrev pub ShowsDirectives : B → B → Option (Vec (Spanning (Directive S))) → tree.Directives C → Type 0
  ShowsDirectives = BuildsOptional (ShowsEach (view_directive content))

  abbrev pub ShowsSet : B → B → Vec (Selection S) → tree.Selections C → Type 0
  ShowsSet = BuildsSet (Shows (view_selection content)) (λ xs. xs.items)

  abbrev pub ShowsOptionalSet : B → B → Option (Vec (Selection S)) → tree.OptionalSelections C → Type 0
  ShowsOptionalSet = BuildsOptionalSet (Shows (view_selection content)) (λ xs. xs.items)
