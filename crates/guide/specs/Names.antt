-- The names of a document's definitions.
use Rattle.std.specs.Prelude.{◌≡◌, ℕ, List, [], ◌∷◌, Option, Some, option_map}
use Rattle.std.specs.Borrow.{Bor}
use Rattle.std.specs.Str.{chars}
use Rattle.std.specs.Global.{Vec}
use Rattle.graphql_grammar.specs.Tokens.{Text, Located}
use Rattle.graphql_grammar.specs.Tree.{Value, Arguments, Directives, Variables, Selections, OptionalSelections}
use Rattle.graphql_grammar.specs.Tree.{Definition, Operation, Fragment}
use Rattle.juniper_parser.specs.Building.{BuildsList, BuildsOptional, BuildsOptionalSet, BuildsSet}
use Rattle.juniper_parser.specs.Promise.{HasTree}
use Rattle.juniper_tree.specs.Scalars.{default_scalars}
use Rattle.juniper_values.specs.Scalar.{Content}
use Rattle.guide.specs.declared.names.DefinitionNames.{DefinitionNames}

-- a definition's name, if it has one
abbrev pub name_of : Definition Content → Option Text
name_of (Operation _ name _ _ _ _) = option_map (λ word. word.item) name
name_of (Fragment name _ _ _ _) = Some name.item

abbrev pub IsNameOf : Option (Bor (List ℕ)) → Definition Content → Type 0
IsNameOf name definition = option_map (λ text. chars text.now) name ≡ name_of definition

-- one name for each of these definitions, in their order
abbrev pub AreNamesOf : List (Option (Bor (List ℕ))) → List (Definition Content) → Type 0
AreNamesOf [] [] = Unit {0}
AreNamesOf [] (d ∷ ds) = ⊥
AreNamesOf (name ∷ names) [] = ⊥
AreNamesOf (name ∷ names) (d ∷ ds) = IsNameOf name d × AreNamesOf names ds

-- The source is a document, and these are the names of its definitions.
pub record AreNames (source : List ℕ) (names : List (Option (Bor (List ℕ)))) : Type 0 where
  pub tree : List (Definition Content)
  pub has_tree : HasTree default_scalars source tree
  pub are : AreNamesOf names tree

-- ---- a builder of names

-- nothing is said of what is built of a part
abbrev pub Unbound : {X A : Type 0} → DefinitionNames → DefinitionNames → X → A → Type 0
Unbound old new x part = Unit {0}

abbrev gathered : {X : Type 0} → Vec X → List X
gathered parts = parts.items

abbrev pub OptionalValue : DefinitionNames → DefinitionNames → Option (Unit {0}) → Option (Located (Value Content))
    → Type 0
OptionalValue = BuildsOptional Unbound

abbrev pub OptionalArguments : DefinitionNames → DefinitionNames → Option (Unit {0}) → Option (Arguments Content)
    → Type 0
OptionalArguments = BuildsOptional Unbound

abbrev pub OptionalVariables : DefinitionNames → DefinitionNames → Option (Unit {0}) → Option (Variables Content)
    → Type 0
OptionalVariables = BuildsOptional Unbound

abbrev pub SomeDirectives : DefinitionNames → DefinitionNames → Option (Vec (Unit {0})) → Directives Content → Type 0
SomeDirectives = BuildsOptional (BuildsList Unbound gathered)

abbrev pub SelectionSet : DefinitionNames → DefinitionNames → Vec (Unit {0}) → Selections Content → Type 0
SelectionSet = BuildsSet Unbound gathered

abbrev pub OptionalSet : DefinitionNames → DefinitionNames → Option (Vec (Unit {0})) → OptionalSelections Content
    → Type 0
OptionalSet = BuildsOptionalSet Unbound gathered
