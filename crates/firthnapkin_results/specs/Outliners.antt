-- What an outliner gathers of the parts of a document.
use Rattle.std.specs.Prelude.{◌≡◌, ℕ, Option}
use Rattle.graphql_grammar.specs.Tokens.{Word}
use Rattle.graphql_grammar.specs.Tree.{Definition}
use Rattle.juniper_parser.specs.Building.{Opened, a_list, an_object, an_object_field, some_arguments}
use Rattle.juniper_parser.specs.Building.{an_argument, a_directive}
use Rattle.juniper_parser.specs.Building.{a_field, a_spread, an_inline_fragment, some_variables}
use Rattle.juniper_parser.specs.Building.{a_variable, an_operation}
use Rattle.juniper_parser.specs.Building.{a_fragment}
use Rattle.juniper_complexity.specs.Gathered.{IsGathered}
use Rattle.juniper_outlines.specs.declared.outline.DefinitionOutline.{DefinitionOutline}
use Rattle.juniper_values.specs.Scalar.{Content}

module _ {O : Type 0} (enters : O → O → ℕ → Option Word → Type 0) (spreads : O → O → Word → Type 0)
    (begins : O → Type 0) where
  -- A part is opened, and reported if it is a field, which so many fields are around, a spread or a definition.
  abbrev pub IsReported : O → O → ℕ → Opened → Type 0
  IsReported old new around a_list = old ≡ new
  IsReported old new around an_object = old ≡ new
  IsReported old new around (an_object_field key) = old ≡ new
  IsReported old new around some_arguments = old ≡ new
  IsReported old new around (an_argument name) = old ≡ new
  IsReported old new around (a_directive name) = old ≡ new
  IsReported old new around (a_field alias name) = enters old new around alias
  IsReported old new around (a_spread name) = spreads old new name
  IsReported old new around (an_inline_fragment condition) = old ≡ new
  IsReported old new around some_variables = old ≡ new
  IsReported old new around (a_variable name type) = old ≡ new
  IsReported old new around (an_operation type name) = begins new
  IsReported old new around (a_fragment name condition) = begins new

-- the outline is that of this definition, and has this mark
abbrev pub IsMarked : DefinitionOutline → ℕ → Definition Content → Type 0
IsMarked outline mark d = IsGathered outline d × (outline.mark ≡ mark)
