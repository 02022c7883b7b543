-- Where a list of tokens is refused, and with which error.
use Rattle.std.specs.Prelude.{Bool, ◌≡◌, ◌≢◌, ◌⊎◌, codes, Err, IsErr, List, [], ◌∷◌, ◌++◌}
use Rattle.std.specs.List.{AllByRecursion}
use Rattle.graphql_lexical.specs.declared.kind.Kind.{Kind}
use Rattle.graphql_lexical.specs.declared.kind.Kind.TheVariants.{EndOfFile, BracketOpen, CurlyOpen, Name}
use Rattle.graphql_lexical.specs.Place.{Span}
use Rattle.graphql_lexical.specs.Cutting.{Lexeme}
use Rattle.graphql_grammar.specs.Tokens.{Text, Located, IsSpelled}
use Rattle.graphql_grammar.specs.Tree.{Scalars, Definition, Value, TypeRef}
use Rattle.graphql_grammar.specs.Grammar.{IsScalarKind, IsValue, IsType, IsDocument, IsLocated}

-- With some tokens after them, these are a document. A text spells each of them.
pub record Begins {C F : Type 0} (S : Scalars C F) (ts : List Lexeme) : Type 0 where
  pub more : List Lexeme
  pub tree : List (Definition C)
  pub document : IsDocument S tree (ts ++ more)
  pub spelled : AllByRecursion IsSpelled (ts ++ more)

-- With some tokens after them, these are a value.
pub record BeginsValue {C F : Type 0} (S : Scalars C F) (free : Bool) (ts : List Lexeme) : Type 0 where
  pub more : List Lexeme
  pub value : Located (Value C)
  pub is_value : IsLocated (IsValue S free) value (ts ++ more)

-- With some tokens after them, these are a type.
pub record BeginsType (ts : List Lexeme) : Type 0 where
  pub more : List Lexeme
  pub type_ref : TypeRef
  pub is_type : IsType type_ref (ts ++ more)

-- `Begun` says of which tokens something is begun: a document, a value or a type.
module _ (Begun : List Lexeme → Type 0) where
  -- The list is refused at t: the tokens before t begin something, and with t they don't.
  pub record AtFault (ts before : List Lexeme) (t : Lexeme) : Type 0 where
    pub after : List Lexeme
    pub whole : ts ≡ before ++ t ∷ after
    pub begins : Begun before
    pub ends : Begun (before ++ t ∷ []) → ⊥

  -- After these tokens one of this kind and text may stand.
  abbrev pub MayStand : List Lexeme → Kind → Text → Type 0
  MayStand before kind text = (span : Span) → Begun (before ++ record { kind = kind; text = text; span = span } ∷ [])

  -- After these tokens a value may stand. A Name alone doesn't tell, since a field has a name; `[` doesn't, since a
  -- type begins with it; `{` doesn't, since a selection set does.
  pub record ValueMayStand (before : List Lexeme) : Type 0 where
    pub null : MayStand before Name (codes "null")
    pub list : MayStand before BracketOpen (codes "[")
    pub object : MayStand before CurlyOpen (codes "{")

  module _ {C F : Type 0} (at_end : F) (unexpected : Kind → Text → F) (S : Scalars C F) (before : List Lexeme)
      (t : Lexeme) where
    -- The error of t, which is refused after the tokens before it: the reading's own, where a value may stand there and
    -- t is a scalar token that the reading refuses. `at_end` is the error of the end, `unexpected` that of another
    -- token.
    pub data NamedError : F → Type 0 where
      end : t.kind ≡ EndOfFile → NamedError at_end
      own : {error : F} → IsScalarKind t.kind → S.read t.kind t.text ≡ Err error → ValueMayStand before
          → NamedError error
      other : t.kind ≢ EndOfFile → (IsScalarKind t.kind → IsErr (S.read t.kind t.text) → ValueMayStand before → ⊥)
          → NamedError (unexpected t.kind t.text)

-- ---- documents, values and types

module _ {F : Type 0} (at_end : F) (unexpected : Kind → Text → F) where
  -- The list is refused at t, after the tokens before it, with this error.
  abbrev pub DocumentRefusedAt : {C : Type 0} → Scalars C F → List Lexeme → List Lexeme → Lexeme → F → Type 0
  DocumentRefusedAt S ts before t e = AtFault (Begins S) ts before t
      × NamedError (Begins S) at_end unexpected S before t e

  abbrev pub ValueRefusedAt : {C : Type 0} → Scalars C F → Bool → List Lexeme → List Lexeme → Lexeme → F → Type 0
  ValueRefusedAt S free ts before t e = AtFault (BeginsValue S free) ts before t
      × NamedError (BeginsValue S free) at_end unexpected S before t e

  -- The error of a token that no type has there.
  abbrev pub TypeError : Lexeme → F → Type 0
  TypeError t e = ((t.kind ≡ EndOfFile) × (e ≡ at_end)) ⊎ ((t.kind ≢ EndOfFile) × (e ≡ unexpected t.kind t.text))

  abbrev pub TypeRefusedAt : List Lexeme → List Lexeme → Lexeme → F → Type 0
  TypeRefusedAt ts before t e = AtFault BeginsType ts before t × TypeError t e
