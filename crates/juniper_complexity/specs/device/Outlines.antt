-- A device: outlines, as the definitions see them.
use Rattle.std.specs.Prelude.{◌≡◌, ℕ, List, [], ◌∷◌, map, Option}
use Rattle.graphql_grammar.specs.Tokens.{Text}
use Rattle.graphql_grammar.specs.Tree as tree
use Rattle.graphql_grammar.specs.Tree.{Definition}
use Rattle.juniper_tokens.specs.Spans.{view_span}
use Rattle.juniper_tokens.specs.declared.span.Spanning.{Spanning}
use Rattle.juniper_tree.specs.View.{view_word, view_directives}
use Rattle.juniper_tree.specs.declared.ast.FragmentSpread.{FragmentSpread}
use Rattle.juniper_outlines.specs.Complexities.{capped, capped_complexity}
use Rattle.juniper_complexity.specs.Parts.{Reference, spreads_of_definition, is_operation}
use Rattle.juniper_complexity.specs.device.BySpreads.{own_of_definition}
use Rattle.juniper_outlines.specs.Outlines.{Outline, Spread}

-- the spread of the code that is this one
abbrev pub coded : (Text → Option ℕ) → Reference → Spread
coded place r = record {
  target = place r.name;
  fields_around = capped r.fields_around;
  span = record { start = r.span.start; end = r.span.end };
}

module _ {C : Type 0} (place : Text → Option ℕ) where
  pub record IsOutline (d : Definition C) (o : Outline) : Type 0 where
    pub is_one : o.is_operation ≡ is_operation d
    pub own_complexity : o.own ≡ capped_complexity (own_of_definition d)
    pub own_spreads : o.spreads ≡ map (coded place) (spreads_of_definition d)

  -- the outlines of these definitions
  abbrev pub AreOutlines : List (Definition C) → List Outline → Type 0
  AreOutlines [] [] = Unit {0}
  AreOutlines (d ∷ ds) (o ∷ os) = IsOutline d o × AreOutlines ds os
  AreOutlines _ _ = ⊥

-- a spread of the code, as the definitions see it
abbrev pub view_spread : {S C : Type 0} → (S → C) → Spanning (FragmentSpread S) → tree.Selection C
view_spread content s =
    tree.FragmentSpread (view_word s.item.name) (view_directives content s.item.directives) (view_span s.span)
