-- The only operation, as a loop over definitions finds it.
use Rattle.std.proofs.Common.{List, ◌∷◌, Option, Some, None}
use Rattle.std.specs.List.{filter}
use Rattle.std.specs.Prelude.{Result}
use Rattle.graphql_grammar.specs.Tree.{Definition}
use Rattle.juniper_complexity.specs.Parts.{is_operation}
use Rattle.juniper_requests.specs.Operations.{the_only}
use Rattle.juniper_requests.specs.declared.operations.OperationFailure.{OperationFailure}

-- the only operation of these definitions and of one that may have been found before
abbrev pub only_after : {C : Type 0} → Option (Definition C) → List (Definition C)
    → Result (Definition C) OperationFailure
only_after None ds = the_only (filter is_operation ds)
only_after (Some d) ds = the_only (d ∷ filter is_operation ds)
