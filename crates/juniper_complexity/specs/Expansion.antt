-- The complexity of a definition, read from the document as it stands: a fragment spread has that of its fragment
-- (GraphQL specification, October 2021, section 2.8).
use Rattle.std.specs.Prelude.{◌≡◌, ℕ, List, slice_get, Option, Some}
use Rattle.graphql_lexical.specs.Place.{Span}
use Rattle.graphql_grammar.specs.Tokens.{Word}
use Rattle.graphql_grammar.specs.Tree as tree
use Rattle.graphql_grammar.specs.Tree.{Arguments, Variables, Directives, Selection, Selections, no_selections}
use Rattle.graphql_grammar.specs.Tree.{selection, absent, present, Definition}
use Rattle.graphql_grammar.specs.declared.operation.OperationType.{OperationType}
use Rattle.juniper_outlines.specs.Complexities.{nothing, plus, in_a_field}
use Rattle.juniper_complexity.specs.Parts.{directives_complexity, operation_directives, field_complexity}
use Rattle.juniper_complexity.specs.Parts.{fragment_at}
use Rattle.juniper_outlines.specs.declared.complexity.Complexity.{Complexity}

module _ {C : Type 0} (document : List (Definition C)) where
  mutual
    -- A definition has this complexity: that of its directives and of its selections. The directives of an operation's
    -- variable definitions are the operation's.
    pub data DefinitionHas : Definition C → Complexity → Type 0 where
      operation : {a : Complexity} (type : OperationType) (name : Option Word) (variables : Option (Variables C))
          (ds : Directives C) (ss : Selections C) (span : Span) → SelectionsHave ss a
          → DefinitionHas (tree.Operation type name variables ds ss span) (plus (operation_directives variables ds) a)
      fragment : {a : Complexity} (name condition : Word) (ds : Directives C) (ss : Selections C) (span : Span)
          → SelectionsHave ss a
          → DefinitionHas (tree.Fragment name condition ds ss span) (plus (directives_complexity ds) a)

    -- Selections have this complexity together. Equal ones aren't merged.
    pub data SelectionsHave : Selections C → Complexity → Type 0 where
      none_have : SelectionsHave no_selections nothing
      first_has : {a b : Complexity} (s : Selection C) (ss : Selections C) → SelectionHas s a → SelectionsHave ss b
          → SelectionsHave (selection s ss) (plus a b)

    -- A selection has this complexity.
    pub data SelectionHas : Selection C → Complexity → Type 0 where
      leaf : (alias : Option Word) (name : Word) (arguments : Option (Arguments C)) (ds : Directives C) (span : Span)
          → SelectionHas (tree.Field alias name arguments ds absent span)
          (plus (field_complexity alias) (directives_complexity ds))
      field : {a : Complexity} (alias : Option Word) (name : Word) (arguments : Option (Arguments C))
          (ds : Directives C)
          (ss : Selections C) (span : Span) → SelectionsHave ss a
          → SelectionHas (tree.Field alias name arguments ds (present ss) span)
          (plus (plus (field_complexity alias) (directives_complexity ds)) (in_a_field a))
      spread : {a : Complexity} (name : Word) (ds : Directives C) (span : Span) (t : ℕ) (d : Definition C)
          → fragment_at document name.item ≡ Some t → slice_get document t ≡ Some d → DefinitionHas d a
          → SelectionHas (tree.FragmentSpread name ds span) (plus (directives_complexity ds) a)
      inline : {a : Complexity} (condition : Option Word) (ds : Directives C) (ss : Selections C) (span : Span)
          → SelectionsHave ss a
          → SelectionHas (tree.InlineFragment condition ds ss span) (plus (directives_complexity ds) a)
