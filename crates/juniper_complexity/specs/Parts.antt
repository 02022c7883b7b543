-- The parts of a document on which a complexity rests: counts, spreads, and the fragments of names. C is the type of a
-- scalar's content.
use Rattle.std.specs.List.{position_from}
use Rattle.std.specs.Prelude.{ℕ, suc, ◌+◌, Bool, true, false, List, [], ◌∷◌, ◌++◌, length, Option, Some, None}
use Rattle.graphql_lexical.specs.Place.{Span}
use Rattle.graphql_grammar.specs.Tokens.{Text, Word}
use Rattle.graphql_grammar.specs.Tree as tree
use Rattle.graphql_grammar.specs.Tree.{Directives, VariableDefinition, Variables, Selection, Selections, no_selections}
use Rattle.graphql_grammar.specs.Tree.{selection, OptionalSelections, absent, present, Definition}
use Rattle.juniper_values.specs.Text.{same_text}
use Rattle.juniper_outlines.specs.declared.complexity.Complexity.{Complexity}

-- ---- counts

abbrev pub directive_count : {C : Type 0} → Directives C → ℕ
directive_count None = 0
directive_count (Some ds) = length ds

-- of so many directives
abbrev pub only_directives : ℕ → Complexity
only_directives n = record { fields = 0; aliases = 0; directives = n; root_fields = 0; depth = 0 }

abbrev pub directives_complexity : {C : Type 0} → Directives C → Complexity
directives_complexity ds = only_directives (directive_count ds)

abbrev pub directives_of_variables : {C : Type 0} → List (VariableDefinition C) → ℕ
directives_of_variables [] = 0
directives_of_variables (v ∷ vs) = directive_count v.directives + directives_of_variables vs

abbrev pub variable_directive_count : {C : Type 0} → Option (Variables C) → ℕ
variable_directive_count None = 0
variable_directive_count (Some vs) = directives_of_variables vs.item

-- of the directives of an operation: those of its variable definitions, and its own
abbrev pub operation_directives : {C : Type 0} → Option (Variables C) → Directives C → Complexity
operation_directives variables ds = only_directives (variable_directive_count variables + directive_count ds)

abbrev pub alias_count : Option Word → ℕ
alias_count None = 0
alias_count (Some alias) = 1

-- of a field at the root, without its directives and what it selects
abbrev pub field_complexity : Option Word → Complexity
field_complexity alias = record { fields = 1; aliases = alias_count alias; directives = 0; root_fields = 1; depth = 1 }

-- ---- spreads

-- A fragment spread: the name, the number of fields around it, and its span.
pub record Reference : Type 0 where
  pub name : Text
  pub fields_around : ℕ
  pub span : Span

module _ {C : Type 0} where
  -- the spreads in a selection that this number of fields is around, in the order of the text
  unfoldable mutual
    pub spreads_of : ℕ → Selection C → List Reference
    spreads_of level (tree.Field alias name arguments directives selections span) =
        spreads_of_optional (suc level) selections
    spreads_of level (tree.FragmentSpread name directives span) =
        record { name = name.item; fields_around = level; span = span } ∷ []
    spreads_of level (tree.InlineFragment condition directives selections span) = spreads_of_all level selections

    pub spreads_of_optional : ℕ → OptionalSelections C → List Reference
    spreads_of_optional level absent = []
    spreads_of_optional level (present selections) = spreads_of_all level selections

    pub spreads_of_all : ℕ → Selections C → List Reference
    spreads_of_all level no_selections = []
    spreads_of_all level (selection first others) = spreads_of level first ++ spreads_of_all level others

  abbrev pub spreads_of_definition : Definition C → List Reference
  spreads_of_definition (tree.Operation type name variables directives selections span) = spreads_of_all 0 selections
  spreads_of_definition (tree.Fragment name condition directives selections span) = spreads_of_all 0 selections

  -- ---- definitions

  abbrev pub is_operation : Definition C → Bool
  is_operation (tree.Operation _ _ _ _ _ _) = true
  is_operation (tree.Fragment _ _ _ _ _) = false

  abbrev pub is_fragment_named : Text → Definition C → Bool
  is_fragment_named name (tree.Operation _ _ _ _ _ _) = false
  is_fragment_named name (tree.Fragment own _ _ _ _) = same_text own.item name

  -- the index of the first fragment of this name, which a spread of the name stands for
  abbrev pub fragment_at : List (Definition C) → Text → Option ℕ
  fragment_at document name = position_from (is_fragment_named name) 0 document
