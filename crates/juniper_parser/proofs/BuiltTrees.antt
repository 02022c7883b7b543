-- What is built while juniper's tree is built, as the parts that are seen of it.
use Rattle.std.proofs.Common.{◌≡◌, ℕ, List, [], ◌∷◌, map, Option, Some, None, refl, sym, ap, ◌∙◌}
use Rattle.std.specs.Borrow.{Bor}
use Rattle.std.specs.Prelude.{option_map}
use Rattle.std.specs.Global.{Vec}
use Rattle.graphql_grammar.specs.Tree as tree
use Rattle.graphql_grammar.specs.Tree.{selections_of}
use Rattle.juniper_tokens.specs.declared.span.Spanning.{Spanning}
use Rattle.juniper_tree.specs.declared.ast.Directive.{Directive}
use Rattle.juniper_tree.specs.declared.ast.Selection.{Selection}
use Rattle.juniper_parser.specs.Building.{BuildsOptional}
use Rattle.juniper_parser.specs.Trees.{Shows, ShowsEach, ShowsDirectives, ShowsOptionalSet, ShowsSet}
use Rattle.juniper_tree.specs.declared.ast.VariableDefinition.{VariableDefinition}
use Rattle.juniper_parser.specs.NamedVariables.{named, view_named}
use Rattle.juniper_tree.specs.View.{view_directive, view_directives, view_selection, view_set, view_variable}
use Rattle.juniper_parser.specs.device.PartViews.{view_whole_set}
use Rattle.juniper_parser.proofs.Building.{each_seen}
use Rattle.juniper_tree.proofs.Public.{selections_are}

-- equal parts make equal wholes
pub ap₃ : {X Y Z R : Type 0} (f : X → Y → Z → R) {a b : X} {c d : Y} {p q : Z} → a ≡ b → c ≡ d → p ≡ q → f a c p ≡ f b d q
ap₃ f {b = b} {c} {d} {p} h i j = ap (λ x. f x c p) h ∙ (ap (λ y. f b y p) i ∙ ap (f b d) j)

module _ {B X A : Type 0} (built : B → B → X → A → Type 0) (view : X → A)
    (shows : (a b : B) (x : X) (p : A) → built a b x p → view x ≡ p) where
  optional : (a b : B) (x : Option X) (p : Option A) → BuildsOptional built a b x p → option_map view x ≡ p
  optional a b None None same = refl
  optional a b None (Some p) some = absurd some
  optional a b (Some x) None some = absurd some
  optional a b (Some x) (Some p) one = ap Some (shows a b x p one)

module _ {B X A : Type 0} (view : X → A) where
  pub optional_shows : (a b : B) (x : Option X) (p : Option A) → BuildsOptional (Shows view) a b x p → option_map view x ≡ p
  optional_shows = optional (Shows view) view (λ a b x p h. h)

module _ {B S C : Type 0} (content : S → C) where
  pub directives_show : (a b : B) (x : Option (Vec (Spanning (Directive S)))) (p : tree.Directives C)
      → ShowsDirectives content a b x p → view_directives content x ≡ p
  directives_show = optional (ShowsEach (view_directive content)) (λ v. map (view_directive content) v.items)
      (λ a b x p h. each_seen (view_directive content) a b x.items p h)

  pub set_shows : (a b : B) (x : Vec (Selection S)) (p : tree.Selections C) → ShowsSet content a b x p
      → view_whole_set content x ≡ p
  set_shows a b x p h =
      sym (selections_are content x.items)
      ∙ (ap selections_of (each_seen (view_selection content) a b x.items h.selections h.are_built) ∙ h.are)

  pub optional_set_shows : (a b : B) (x : Option (Vec (Selection S))) (p : tree.OptionalSelections C)
      → ShowsOptionalSet content a b x p → view_set content x ≡ p
  optional_set_shows a b None tree.absent same = refl
  optional_set_shows a b None (tree.present p) some = absurd some
  optional_set_shows a b (Some x) tree.absent some = absurd some
  optional_set_shows a b (Some x) (tree.present p) one = ap tree.present (set_shows a b x p one)

-- definitions of variables are seen as they are with their names
pub named_views : {S C : Type 0} (content : S → C) (vs : List (Spanning (Bor (List ℕ)) × VariableDefinition S))
    → map (view_named content) (map named vs) ≡ map (view_variable content) vs
named_views content [] = refl
named_views content (v ∷ vs) = ap (λ ws. view_variable content v ∷ ws) (named_views content vs)
