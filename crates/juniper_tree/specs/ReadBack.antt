-- What the display of a type and of an input value is read back as.
use Rattle.std.specs.Prelude.{true, List, [], ◌∷◌, ◌++◌, Some, None}
use Rattle.graphql_lexical.specs.Cutting.{Lexeme, Cut}
use Rattle.graphql_grammar.specs.Tokens.{Text}
use Rattle.graphql_grammar.specs.Tree.{Value, TypeRef, NamedType}
use Rattle.graphql_grammar.specs.Grammar.{IsValue, IsType}
use Rattle.graphql_grammar.specs.Unlocated.{SameValue}
use Rattle.juniper_values.specs.Scalar.{Content}
use Rattle.juniper_values.specs.Default.{default_content, default_shown, text_in}
use Rattle.juniper_values.specs.Display.{value_text}
use Rattle.juniper_values.specs.ScalarDisplay.{scalar_display}
use Rattle.juniper_values.specs.View.{view}
use Rattle.juniper_values.specs.declared.default_scalar.DefaultScalarValue.{DefaultScalarValue}
use Rattle.juniper_values.specs.declared.input_value.InputValue.{InputValue}
use Rattle.juniper_values.specs.declared.type_literal.TypeModifier.{TypeModifier}
use Rattle.juniper_values.specs.declared.type_literal.TypeModifier.TheVariants.{NonNull, List as ListModifier}
use Rattle.juniper_tree.specs.View.{wrapped}
use Rattle.juniper_tree.specs.Scalars.{default_scalars}

-- ---- types

-- the first is no `!`
abbrev pub BeginsUnmarked : List TypeModifier → Type 0
BeginsUnmarked [] = Unit {0}
BeginsUnmarked (NonNull ∷ ms) = ⊥
BeginsUnmarked (ListModifier size ∷ ms) = Unit {0}

-- no `!` stands directly after another, and no list has a size
abbrev pub AreWritable : List TypeModifier → Type 0
AreWritable [] = Unit {0}
AreWritable (NonNull ∷ ms) = BeginsUnmarked ms × AreWritable ms
AreWritable (ListModifier None ∷ ms) = AreWritable ms
AreWritable (ListModifier (Some size) ∷ ms) = ⊥

-- the text is cut into tokens that are this type, and the end
pub record IsReadAsType (text : Text) (type : TypeRef) : Type 0 where
  pub lexemes : List Lexeme
  pub end : Lexeme
  pub cut : Cut text (lexemes ++ end ∷ [])
  pub means : IsType type lexemes

-- the type of a name and modifiers, the innermost first
abbrev pub type_of : Text → List TypeModifier → TypeRef
type_of name ms = wrapped (NamedType name) ms

-- ---- values

-- the text is cut into tokens that are this value apart from its places, and the end
pub record IsReadAsValue (text : Text) (value : Value Content) : Type 0 where
  pub lexemes : List Lexeme
  pub end : Lexeme
  pub tree : Value Content
  pub cut : Cut text (lexemes ++ end ∷ [])
  pub means : IsValue default_scalars true tree lexemes
  pub same : SameValue tree value

-- the display of an input value is read as its tree
abbrev pub IsReadBack : InputValue DefaultScalarValue → Type 0
IsReadBack v =
    IsReadAsValue (value_text (scalar_display default_content text_in default_shown) (view (λ s. s) v))
    (view default_content v)
