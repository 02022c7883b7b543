-- A device: the complexity of a definition, spread by spread.
use Rattle.std.specs.Prelude.{◌≡◌, ℕ, suc, List, [], ◌∷◌, slice_get, Some}
use Rattle.graphql_grammar.specs.Tree as tree
use Rattle.graphql_grammar.specs.Tree.{Selection, Selections, no_selections, selection, OptionalSelections, absent}
use Rattle.graphql_grammar.specs.Tree.{present, Definition}
use Rattle.juniper_outlines.specs.Complexities.{nothing, plus}
use Rattle.juniper_outlines.specs.Sums.{at_level}
use Rattle.juniper_complexity.specs.Parts.{Reference, directives_complexity, field_complexity, spreads_of_definition}
use Rattle.juniper_complexity.specs.Parts.{fragment_at, operation_directives}
use Rattle.juniper_outlines.specs.declared.complexity.Complexity.{Complexity}

module _ {C : Type 0} where
  -- of what is inside so many fields, its spreads not expanded
  unfoldable mutual
    pub own_of : ℕ → Selection C → Complexity
    own_of level (tree.Field alias name arguments directives selections span) =
        plus
        (plus (at_level level (field_complexity alias)) (directives_complexity directives))
        (own_of_optional (suc level) selections)
    own_of level (tree.FragmentSpread name directives span) = directives_complexity directives
    own_of level (tree.InlineFragment condition directives selections span) =
        plus (directives_complexity directives) (own_of_all level selections)

    pub own_of_optional : ℕ → OptionalSelections C → Complexity
    own_of_optional level absent = nothing
    own_of_optional level (present selections) = own_of_all level selections

    pub own_of_all : ℕ → Selections C → Complexity
    own_of_all level no_selections = nothing
    own_of_all level (selection first others) = plus (own_of level first) (own_of_all level others)

  abbrev pub own_of_definition : Definition C → Complexity
  own_of_definition (tree.Operation type name variables directives selections span) =
      plus (operation_directives variables directives) (own_of_all 0 selections)
  own_of_definition (tree.Fragment name condition directives selections span) =
      plus (directives_complexity directives) (own_of_all 0 selections)

module _ {C : Type 0} (document : List (Definition C)) where
  mutual
    -- The definition at this index has this complexity: what it has with no spread expanded and, for each spread in it,
    -- that of the fragment at the spread's level.
    pub data HasBySpreads : ℕ → Complexity → Type 0 where
      has_by_spreads : {i : ℕ} {c : Complexity} (d : Definition C) → slice_get document i ≡ Some d
          → SpreadsAdd (own_of_definition d) (spreads_of_definition d) c → HasBySpreads i c

    -- A complexity, and that of the fragment of each of these spreads, are this together.
    pub data SpreadsAdd : Complexity → List Reference → Complexity → Type 0 where
      none_adds : {a : Complexity} → SpreadsAdd a [] a
      first_adds : {a c : Complexity} {r : Reference} {rs : List Reference} (t : ℕ) (b : Complexity)
          → fragment_at document r.name ≡ Some t → HasBySpreads t b
          → SpreadsAdd (plus a (at_level r.fields_around b)) rs c
          → SpreadsAdd a (r ∷ rs) c
