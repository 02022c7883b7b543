-- The operation of a document that is executed (GraphQL specification, October 2021, section 6.1, GetOperation).
-- C is the type of a scalar's content.
use Rattle.std.specs.Prelude.{Bool, false, List, [], ◌∷◌, Option, Some, None, Result, Ok, Err}
use Rattle.std.specs.Borrow.{Bor}
use Rattle.std.specs.List.{filter, find}
use Rattle.graphql_grammar.specs.Tokens.{Text, Word}
use Rattle.graphql_grammar.specs.Tree as tree
use Rattle.graphql_grammar.specs.Tree.{Definition}
use Rattle.juniper_tokens.specs.declared.span.Spanning.{Spanning}
use Rattle.juniper_values.specs.Text.{same_text}
use Rattle.juniper_tree.specs.View.{view_definition}
use Rattle.juniper_tree.specs.declared.ast.Definition.TheVariants as definition
use Rattle.juniper_tree.specs.declared.ast.Operation.{Operation}
use Rattle.juniper_complexity.specs.Parts.{is_operation}
use Rattle.juniper_requests.specs.declared.operations.OperationFailure.{OperationFailure}
use Rattle.juniper_requests.specs.declared.operations.OperationFailure.TheVariants as failure

-- there is a name, and it is this one
abbrev pub has_name : Text → Option Word → Bool
has_name name None = false
has_name name (Some own) = same_text own.item name

module _ {C : Type 0} where
  abbrev pub is_operation_named : Text → Definition C → Bool
  is_operation_named name (tree.Operation _ own _ _ _ _) = has_name name own
  is_operation_named name (tree.Fragment _ _ _ _ _) = false

  -- the only one of these operations
  abbrev pub the_only : List (Definition C) → Result (Definition C) OperationFailure
  the_only [] = Err failure.NoOperation
  the_only (d ∷ []) = Ok d
  the_only (d ∷ e ∷ ds) = Err failure.Several

  abbrev pub or_unknown : Option (Definition C) → Result (Definition C) OperationFailure
  or_unknown None = Err failure.Unknown
  or_unknown (Some d) = Ok d

  -- the operation of this name, the first if there are several, or without a name the only operation
  abbrev pub get_operation : List (Definition C) → Option Text → Result (Definition C) OperationFailure
  get_operation document None = the_only (filter is_operation document)
  get_operation document (Some name) = or_unknown (find (is_operation_named name) document)

-- what the code returns, as the grammar sees it
module _ {S C : Type 0} (content : S → C) where
  abbrev pub view_found : Result (Bor (Spanning (Operation S))) OperationFailure
      → Result (Definition C) OperationFailure
  view_found (Ok o) = Ok (view_definition content (definition.Operation o.now))
  view_found (Err f) = Err f
