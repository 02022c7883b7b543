-- Which tokens the text of a type and of an input value is cut into.
use Rattle.std.specs.Prelude.{◌≡◌, List, [], ◌∷◌, ◌++◌, codes, IsTrue, if◌then◌else◌}
use Rattle.std.specs.Fmt.{signed_decimal}
use Rattle.std.specs.List.{AllByRecursion}
use Rattle.graphql_lexical.specs.declared.kind.Kind.{Kind}
use Rattle.graphql_lexical.specs.declared.kind.Kind.TheVariants.{Name, String, Int, ExclamationMark, Dollar, BracketOpen, BracketClose, CurlyOpen, CurlyClose, Colon}
use Rattle.graphql_lexical.specs.Characters.{is_plain}
use Rattle.graphql_lexical.specs.Tokens.{IsName}
use Rattle.graphql_lexical.specs.laws.Written.{Bare}
use Rattle.juniper_tokens.specs.Tokens.{kind_text}
use Rattle.juniper_values.specs.Text.{Text}
use Rattle.juniper_values.specs.Scalar.{Content, integer, text, boolean, custom}
use Rattle.juniper_values.specs.Integers.{is_i32}
use Rattle.graphql_grammar.specs.Tree.{Value, Null, Scalar, Enum, Variable, ListOf, Object, Items, no_items, item, ObjectFields, no_fields, object_field}
use Rattle.juniper_values.specs.declared.type_literal.TypeModifier.{TypeModifier}
use Rattle.juniper_values.specs.declared.type_literal.TypeModifier.TheVariants.{NonNull, List as ListModifier}

abbrev pub token : Kind → Text → Bare
token kind t = record { kind = kind; text = t }

-- a token of a kind that leaves no text open
abbrev pub punctuation : Kind → Bare
punctuation kind = token kind (kind_text kind [])

-- ---- types

abbrev pub opening_tokens : TypeModifier → List Bare
opening_tokens NonNull = []
opening_tokens (ListModifier size) = punctuation BracketOpen ∷ []

abbrev pub closing_tokens : TypeModifier → List Bare
closing_tokens NonNull = punctuation ExclamationMark ∷ []
closing_tokens (ListModifier size) = punctuation BracketClose ∷ []

-- these modifiers, the innermost first, around the tokens of a type
abbrev pub wrapped_tokens : List Bare → List TypeModifier → List Bare
wrapped_tokens inner [] = inner
wrapped_tokens inner (m ∷ ms) = wrapped_tokens (opening_tokens m ++ (inner ++ closing_tokens m)) ms

-- the tokens of a type's text
abbrev pub type_tokens : Text → List TypeModifier → List Bare
type_tokens name ms = wrapped_tokens (token Name name ∷ []) ms

-- ---- input values of default scalars

abbrev pub scalar_token : Content → Bare
scalar_token (integer n) = token Int (signed_decimal n)
scalar_token (text t) = token String t
scalar_token (boolean b) = token Name (if b then codes "true" else codes "false")
scalar_token (custom ns) = token Name []

abbrev mutual
  -- the tokens of a value's text
  pub value_tokens : Value Content → List Bare
  value_tokens Null = token Name (codes "null") ∷ []
  value_tokens (Scalar s) = scalar_token s ∷ []
  value_tokens (Enum t) = token Name t ∷ []
  value_tokens (Variable t) = punctuation Dollar ∷ token Name t ∷ []
  value_tokens (ListOf xs) = punctuation BracketOpen ∷ (items_tokens xs ++ punctuation BracketClose ∷ [])
  value_tokens (Object fs) = punctuation CurlyOpen ∷ (fields_tokens fs ++ punctuation CurlyClose ∷ [])

  pub items_tokens : Items Content → List Bare
  items_tokens no_items = []
  items_tokens (item v s xs) = value_tokens v ++ items_tokens xs

  pub fields_tokens : ObjectFields Content → List Bare
  fields_tokens no_fields = []
  fields_tokens (object_field k v t fs) = token Name k.item ∷ punctuation Colon ∷ (value_tokens v ++ fields_tokens fs)

-- a Name that isn't one of the names of other values
pub record IsEnumName (t : Text) : Type 0 where
  pub name : IsName t
  pub not_true : t ≡ codes "true" → ⊥
  pub not_false : t ≡ codes "false" → ⊥
  pub not_null : t ≡ codes "null" → ⊥

-- An integer of 32 bits, a text without quotes, backslashes and characters below the space other than the tab, or a
-- boolean.
abbrev pub IsPlainScalar : Content → Type 0
IsPlainScalar (integer n) = IsTrue (is_i32 n)
IsPlainScalar (text t) = AllByRecursion (λ c. IsTrue (is_plain c)) t
IsPlainScalar (boolean b) = Unit {0}
IsPlainScalar (custom ns) = ⊥

abbrev mutual
  -- its scalars are plain, and its variables, keys and enums have names that a source can have
  pub IsPlain : Value Content → Type 0
  IsPlain Null = Unit {0}
  IsPlain (Scalar s) = IsPlainScalar s
  IsPlain (Enum t) = IsEnumName t
  IsPlain (Variable t) = IsName t
  IsPlain (ListOf xs) = ArePlainItems xs
  IsPlain (Object fs) = ArePlainFields fs

  pub ArePlainItems : Items Content → Type 0
  ArePlainItems no_items = Unit {0}
  ArePlainItems (item v s xs) = IsPlain v × ArePlainItems xs

  pub ArePlainFields : ObjectFields Content → Type 0
  ArePlainFields no_fields = Unit {0}
  ArePlainFields (object_field k v t fs) = IsName k.item × IsPlain v × ArePlainFields fs
