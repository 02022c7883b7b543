-- What a builder of names builds.
use Rattle.std.specs.Prelude.{ℕ, List, [], ◌∷◌, Option, Err}
use Rattle.std.specs.Borrow.{Bor}
use Rattle.graphql_grammar.specs.Tree.{Definition}
use Rattle.juniper_parser.specs.Building.{BuildsEach, FailsReading}
use Rattle.juniper_values.specs.Scalar.{Content, Reading, MeetsReading}
use Rattle.juniper_values.specs.declared.scalar.ReadFailure.{ReadFailure}
use Rattle.juniper_values.specs.declared.scalar.ReadFailure.TheVariants.{Refused, Memory}
use Rattle.guide.specs.Names.{AreNamesOf, IsNameOf}
use Rattle.guide.specs.declared.names.DefinitionNames.{DefinitionNames}

pub names_of_definitions : (a b : DefinitionNames) (names : List (Option (Bor (List ℕ))))
    (ds : List (Definition Content)) → BuildsEach (λ (old new : DefinitionNames) name d. IsNameOf name d) a b names ds
    → AreNamesOf names ds
names_of_definitions a b [] [] same = tt
names_of_definitions a b [] (d ∷ ds) some = absurd some
names_of_definitions a b (name ∷ names) [] some = absurd some
names_of_definitions a b (name ∷ names) (d ∷ ds) some = (some.1, names_of_definitions some.0 b names ds some.2)

-- a scalar type made no scalar of a token of which it states this
pub fails_reading : {S : Type 0} (content : S → Content) (reading : Reading) (failure : ReadFailure)
    → MeetsReading content reading (Err failure) → FailsReading reading failure
fails_reading content reading (Refused e) h = h
fails_reading content reading Memory h = tt
