-- The values of variables with the defaults of their definitions (GraphQL specification, October 2021, section 6.1.2).
-- C is the type of a scalar's content.
use Rattle.std.specs.Prelude.{◌≡◌, Bool, Option, Some, None, List, option_map}
use Rattle.std.specs.List.{find}
use Rattle.graphql_grammar.specs.Tokens.{Text}
use Rattle.graphql_grammar.specs.Tree.{Value, VariableDefinition}
use Rattle.juniper_values.specs.Resolve.{Values}
use Rattle.juniper_values.specs.Text.{same_text}

module _ {C : Type 0} where
  abbrev pub defines : Text → VariableDefinition C → Bool
  defines name d = same_text d.name.item name

  -- the default of this definition, if there is one
  abbrev pub default_in : Option (VariableDefinition C) → Option (Value C)
  default_in None = None
  default_in (Some d) = option_map (λ v. v.item) d.default

  -- the default of the first definition of this name
  abbrev pub default_of : List (VariableDefinition C) → Values C
  default_of ds name = default_in (find (defines name) ds)

  -- the value that is given, or else this one
  abbrev pub given_or : Option (Value C) → Option (Value C) → Option (Value C)
  given_or (Some v) default = Some v
  given_or None default = default

  -- each value that is given, and else the default of the first definition of the name
  abbrev pub WithDefaults : List (VariableDefinition C) → Values C → Values C → Type 0
  WithDefaults ds given all = (name : Text) → all name ≡ given_or (given name) (default_of ds name)

-- each value that is given is still there
abbrev pub AreKept : {S : Type 0} → Values S → Values S → Type 0
AreKept {S} given all = (name : Text) (v : Value S) → given name ≡ Some v → all name ≡ Some v
