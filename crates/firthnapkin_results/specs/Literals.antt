-- What a call returns for a source that is to be one value or one type.
use Rattle.std.specs.Prelude.{◌≡◌, ℕ, Bool, List, [], IsUtf8, chars, Result}
use Rattle.graphql_lexical.specs.Cutting.{Lexeme}
use Rattle.graphql_lexical.specs.Place.{Span}
use Rattle.graphql_grammar.specs.Grammar.{IsLocated, IsType, IsValue}
use Rattle.graphql_grammar.specs.Tokens.{Located}
use Rattle.graphql_grammar.specs.Tree.{TypeRef, Value}
use Rattle.graphql_nodes.specs.Nodes.{type_nodes, value_nodes}
use Rattle.juniper_tokens.specs.Counting.{HasFew}
use Rattle.juniper_tokens.specs.Errors as errors
use Rattle.juniper_values.specs.Scalar.{Content}
use Rattle.juniper_documents.specs.Literals.{HasLiteral, HasLiteralTooDeep, IsLiteralRefusal, IsLiteralWithin, NamesTypeError, NamesValueError}
use Rattle.firthnapkin_results.specs.Answers.{IsFailureBy, ReportsBy, ReturnsBy, nodes_in, scalars, texts_in}
use Rattle.firthnapkin_results.specs.Errors.{too_deep_error, written_error}
use Rattle.firthnapkin_results.specs.declared.error.Error.{Error}
use Rattle.firthnapkin_results.specs.declared.flat.Failure.{Failure}
use Rattle.firthnapkin_results.specs.declared.flat.Parsed.{Parsed}
use Rattle.firthnapkin_results.specs.declared.limits.Limits.{Limits}
use Rattle.firthnapkin_results.specs.declared.node.Node.{Node}
use Rattle.firthnapkin_results.specs.declared.source.Unread.{Unread}

-- R says of which tokens a literal is made, and what it is.
module _ {A : Type 0} (R : A → List Lexeme → Type 0) where
  -- The source is this literal and no more, within the limits.
  pub record IsOne (source : List ℕ) (limits : Limits) (x : A) : Type 0 where
    pub utf8 : IsUtf8 source
    pub has : HasLiteral R (chars source) x
    pub within : IsLiteralWithin R limits.depth (chars source)
    pub few : HasFew [] (chars source) limits.tokens

  -- The source's first token that is nested too deep has this span, and those up to it begin a literal; there are no
  -- more tokens than the limit.
  pub record IsDeepToken (source : List ℕ) (limits : Limits) (span : Span) : Type 0 where
    pub utf8 : IsUtf8 source
    pub deep : HasLiteralTooDeep R limits.depth (chars source) span
    pub few : HasFew [] (chars source) limits.tokens

  -- The source is a text and no literal, and this is its error, by the errors that Names says; no token before is
  -- nested too deep, and there are no more tokens than the limit.
  pub record IsErrorBy (Names : List Lexeme → Lexeme → errors.Error → Type 0) (source : List ℕ) (limits : Limits)
      (error : errors.Fault) : Type 0 where
    pub utf8 : IsUtf8 source
    pub refusal : IsLiteralRefusal R Names (chars source) error
    pub within : IsLiteralWithin R limits.depth (chars source)
    pub few : HasFew [] (chars source) limits.tokens

  -- the error is at the first token that is nested too deep
  abbrev pub IsDeepLiteral : List ℕ → Limits → Error → Type 0
  IsDeepLiteral source limits error =
      (span : Span) × IsDeepToken source limits span × (error ≡ too_deep_error (chars source) span)

  -- the error is that of a source that is no literal
  abbrev pub IsNoLiteral : (List Lexeme → Lexeme → errors.Error → Type 0) → List ℕ → Limits → Error → Type 0
  IsNoLiteral Names source limits error =
      (found : errors.Fault) × IsErrorBy Names source limits found × (error ≡ written_error (chars source) found)

-- ---- one value, in which variables may stand where free is true

-- the nodes of a value, and their texts
abbrev pub nodes_of_value : List ℕ → Located (Value Content) → List Node
nodes_of_value source value = nodes_in source (value_nodes value)

abbrev pub texts_of_value : Located (Value Content) → List ℕ
texts_of_value value = texts_in (value_nodes value)

module _ (free : Bool) where
  abbrev pub IsOneValue : List ℕ → Limits → Located (Value Content) → Type 0
  IsOneValue = IsOne (IsLocated (IsValue scalars free))

  abbrev pub IsValueError : List ℕ → Limits → Error → Type 0
  IsValueError = IsNoLiteral (IsLocated (IsValue scalars free)) (NamesValueError scalars free)

  abbrev pub IsDeepValue : List ℕ → Limits → Error → Type 0
  IsDeepValue = IsDeepLiteral (IsLocated (IsValue scalars free))

  abbrev pub IsValueFailure : List ℕ → Limits → Failure → Type 0
  IsValueFailure = IsFailureBy IsValueError IsDeepValue

  abbrev pub ReturnsValue : List ℕ → Limits → List Node → List Node → List ℕ → List ℕ → Result Parsed Unread → Type 0
  ReturnsValue = ReturnsBy IsOneValue value_nodes IsValueError IsDeepValue

  abbrev pub ReportsNoValue : List ℕ → Limits → List Node → List Node → List ℕ → List ℕ → Error → ℕ → Type 0
  ReportsNoValue = ReportsBy IsValueError IsDeepValue

-- ---- one type

-- the node of a type, and its text
abbrev pub nodes_of_type : List ℕ → Located TypeRef → List Node
nodes_of_type source type = nodes_in source (type_nodes type)

abbrev pub texts_of_type : Located TypeRef → List ℕ
texts_of_type type = texts_in (type_nodes type)

abbrev pub IsOneType : List ℕ → Limits → Located TypeRef → Type 0
IsOneType = IsOne (IsLocated IsType)

abbrev pub IsTypeError : List ℕ → Limits → Error → Type 0
IsTypeError = IsNoLiteral (IsLocated IsType) NamesTypeError

abbrev pub IsDeepType : List ℕ → Limits → Error → Type 0
IsDeepType = IsDeepLiteral (IsLocated IsType)

abbrev pub IsTypeFailure : List ℕ → Limits → Failure → Type 0
IsTypeFailure = IsFailureBy IsTypeError IsDeepType

abbrev pub ReturnsType : List ℕ → Limits → List Node → List Node → List ℕ → List ℕ → Result Parsed Unread → Type 0
ReturnsType = ReturnsBy IsOneType type_nodes IsTypeError IsDeepType

abbrev pub ReportsNoType : List ℕ → Limits → List Node → List Node → List ℕ → List ℕ → Error → ℕ → Type 0
ReportsNoType = ReportsBy IsTypeError IsDeepType
