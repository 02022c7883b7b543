-- The names of all fields, in the order in which they are written.
use Rattle.std.specs.Prelude.{ℕ, List, [], ◌∷◌, ◌++◌, map}
use Rattle.std.specs.Borrow.{Bor}
use Rattle.std.specs.Str.{chars}
use Rattle.graphql_grammar.specs.Tokens.{Text}
use Rattle.graphql_grammar.specs.Tree.{Selection, Field, FragmentSpread, InlineFragment, Selections, no_selections, selection, OptionalSelections, absent, present, Definition, Operation, Fragment}

-- what borrowed strings say
abbrev pub texts : List (Bor (List ℕ)) → List Text
texts names = map (λ name. chars name.now) names

module _ {C : Type 0} where
  unfoldable mutual
    pub fields_of : Selection C → List Text
    fields_of (Field alias name arguments directives inner span) = name.item ∷ fields_within inner
    fields_of (FragmentSpread name directives span) = []
    fields_of (InlineFragment condition directives inner span) = fields_among inner

    -- of a selection set that may be absent
    pub fields_within : OptionalSelections C → List Text
    fields_within absent = []
    fields_within (present selections) = fields_among selections

    pub fields_among : Selections C → List Text
    fields_among no_selections = []
    fields_among (selection first others) = fields_of first ++ fields_among others

  unfoldable pub fields_in : Definition C → List Text
  fields_in (Operation kind name variables directives selections span) = fields_among selections
  fields_in (Fragment name condition directives selections span) = fields_among selections

  unfoldable pub field_names : List (Definition C) → List Text
  field_names [] = []
  field_names (d ∷ ds) = fields_in d ++ field_names ds
