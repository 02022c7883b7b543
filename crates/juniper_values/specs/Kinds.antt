-- Which kind of value an input value is.
use Rattle.std.specs.Prelude.{Bool, true, false, Option, Some, None}
use Rattle.juniper_values.specs.Text.{Text}
use Rattle.graphql_grammar.specs.Tree.{Value, Null, Scalar, Enum, Variable}

module _ {C : Type 0} where
  abbrev pub is_null : Value C → Bool
  is_null Null = true
  is_null v = false

  abbrev pub is_variable : Value C → Bool
  is_variable (Variable t) = true
  is_variable v = false

  -- the name of an enum value
  abbrev pub enum_in : Value C → Option Text
  enum_in (Enum t) = Some t
  enum_in v = None

  abbrev pub scalar_in : Value C → Option C
  scalar_in (Scalar s) = Some s
  scalar_in v = None
