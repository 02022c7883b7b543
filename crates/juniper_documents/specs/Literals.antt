-- What is promised for a source that is one literal, which is a value or a type, and then the end.
use Rattle.std.specs.Prelude.{◌≡◌, ◌<◌, ◌⊎◌, ◌^◌, ℕ, Bool, List, [], ◌∷◌, ◌++◌}
use Rattle.graphql_lexical.specs.declared.kind.Kind.TheVariants.{EndOfFile}
use Rattle.graphql_lexical.specs.Kinds.{LexicalError}
use Rattle.graphql_lexical.specs.Place.{Place, Span}
use Rattle.graphql_lexical.specs.Parts.{◌·◌}
use Rattle.graphql_lexical.specs.Cutting.{Lexeme, Cut, Breaks}
use Rattle.graphql_lexical.specs.Nesting.{IsFirstDeeper}
use Rattle.graphql_grammar.specs.Tokens.{Located}
use Rattle.graphql_grammar.specs.Tree.{Scalars, Value, TypeRef}
use Rattle.graphql_grammar.specs.Grammar.{Is, IsLocated, IsValue, IsType}
use Rattle.graphql_grammar.specs.Faults.{AtFault, NamedError, TypeError}
use Rattle.juniper_tokens.specs.Errors.{Error, UnexpectedEndOfFile, Fault, view_fault}
use Rattle.juniper_tokens.specs.Spans.{view_span}
use Rattle.juniper_tokens.specs.declared.error.ParseFailure.TheVariants as failure
use Rattle.juniper_parser.specs.Promise.{lexical_fault, unexpected}
use Rattle.juniper_documents.specs.declared.document.depth.DepthFailure.{DepthFailure}
use Rattle.juniper_documents.specs.declared.document.depth.DepthFailure.TheVariants as within
use Rattle.juniper_documents.specs.declared.document.limited.LimitFailure.{LimitFailure}
use Rattle.juniper_documents.specs.declared.document.limited.LimitFailure.TheVariants as limited
use Rattle.juniper_documents.specs.Limited.{HasFewTokens, HasTooManyTokens}

-- R says of which tokens a literal is made, and what it is.
module _ {A : Type 0} (R : A → List Lexeme → Type 0) where
  -- a literal, and then the end
  abbrev pub IsAlone : A → List Lexeme → Type 0
  IsAlone x = R x · Is EndOfFile

  -- With some tokens after them, these are a literal, and then the end.
  pub record BeginsAlone (ts : List Lexeme) : Type 0 where
    pub more : List Lexeme
    pub literal : A
    pub alone : IsAlone literal (ts ++ more)

  -- The source can be cut into tokens, they are this literal and then the end, and the source is no other.
  pub record HasLiteral (source : List ℕ) (x : A) : Type 0 where
    pub lexemes : List Lexeme
    pub cut : Cut source lexemes
    pub alone : IsAlone x lexemes
    pub only : (others : List Lexeme) (other : A) → Cut source others → IsAlone other others → other ≡ x

  -- The source is refused at its first lexical error, if it has one, and else at the first token that can't stand there
  -- in a literal and the end. `Names before t e` says that e is the error of t, which is refused after the tokens
  -- before it.
  pub data IsLiteralRefusal (Names : List Lexeme → Lexeme → Error → Type 0) (source : List ℕ) : Fault → Type 0 where
    lexical : {error : LexicalError} {at : Place} → Breaks source error at
        → IsLiteralRefusal Names source (lexical_fault error at)
    grammatical : {ts before : List Lexeme} {t : Lexeme} {error : Error} → Cut source ts
        → AtFault BeginsAlone ts before t → Names before t error
        → IsLiteralRefusal Names source (record { error = error; span = t.span })

  module _ (depth : ℕ) (source : List ℕ) where
    -- The source can be cut into tokens, and the first one whose nesting exceeds depth has this span and begins, with
    -- those before it, a literal and the end.
    pub record HasLiteralTooDeep (span : Span) : Type 0 where
      pub lexemes : List Lexeme
      pub cut : Cut source lexemes
      pub before : List Lexeme
      pub token : Lexeme
      pub deeper : IsFirstDeeper depth lexemes before token
      pub begins : BeginsAlone (before ++ token ∷ [])
      pub at : span ≡ token.span

    -- The source has no such token.
    pub record IsLiteralWithin : Type 0 where
      pub none : (span : Span) → HasLiteralTooDeep span → ⊥

    -- Exactly one of these three holds of the source: it is a literal, or is refused, and has no such token; or it has
    -- one.
    pub record HasOneLiteralResult (Names : List Lexeme → Lexeme → Error → Type 0) : Type 0 where
      pub some : (IsLiteralWithin × ((x : A) × HasLiteral source x))
          ⊎ ((IsLiteralWithin × ((fault : Fault) × IsLiteralRefusal Names source fault))
          ⊎ ((span : Span) × HasLiteralTooDeep span))
      pub literal_or_refused : (x : A) (fault : Fault) → HasLiteral source x → IsLiteralRefusal Names source fault → ⊥
      pub one_refusal : (f g : Fault) → IsLiteralRefusal Names source f → IsLiteralRefusal Names source g → f ≡ g
      pub within_or_too_deep : (span : Span) → IsLiteralWithin → HasLiteralTooDeep span → ⊥

    -- What a failure within the depth alone says of the source.
    abbrev pub FailsLiteralWithin : (List Lexeme → Lexeme → Error → Type 0) → DepthFailure → Type 0
    FailsLiteralWithin Names (within.Parse (failure.Refused fault)) =
        IsLiteralRefusal Names source (view_fault fault) × IsLiteralWithin
    FailsLiteralWithin Names (within.Parse failure.Memory) = Unit {0}
    FailsLiteralWithin Names (within.TooDeep span) = HasLiteralTooDeep (view_span span)

  -- What a failure says of the source: it is refused, or has too deep a token, and both within the other limits; or it
  -- has more tokens than the limit, whatever they are.
  abbrev pub FailsLiteral : (List Lexeme → Lexeme → Error → Type 0) → ℕ → ℕ → List ℕ → LimitFailure → Type 0
  FailsLiteral Names depth most source (limited.Parse (failure.Refused fault)) =
      IsLiteralRefusal Names source (view_fault fault) × IsLiteralWithin depth source × HasFewTokens most source
  FailsLiteral Names depth most source (limited.Parse failure.Memory) = Unit {0}
  FailsLiteral Names depth most source (limited.TooDeep span) =
      HasLiteralTooDeep depth source (view_span span) × HasFewTokens most source
  FailsLiteral Names depth most source (limited.TooMany span) =
      HasTooManyTokens most source (view_span span) × (most < 2 ^ 63)

-- ---- one value, in which variables may stand where free is true

module _ {C : Type 0} (S : Scalars C Error) (free : Bool) where
  -- the error of t, which is refused after the tokens before it
  abbrev pub NamesValueError : List Lexeme → Lexeme → Error → Type 0
  NamesValueError before t e =
      NamedError (BeginsAlone (IsLocated (IsValue S free))) UnexpectedEndOfFile unexpected S before t e

  abbrev pub HasValue : List ℕ → Located (Value C) → Type 0
  HasValue = HasLiteral (IsLocated (IsValue S free))

  abbrev pub IsValueWithin : ℕ → List ℕ → Type 0
  IsValueWithin = IsLiteralWithin (IsLocated (IsValue S free))

  abbrev pub FailsValue : ℕ → ℕ → List ℕ → LimitFailure → Type 0
  FailsValue = FailsLiteral (IsLocated (IsValue S free)) NamesValueError

-- ---- one type

abbrev pub NamesTypeError : List Lexeme → Lexeme → Error → Type 0
NamesTypeError before t e = TypeError UnexpectedEndOfFile unexpected t e

abbrev pub HasType : List ℕ → Located TypeRef → Type 0
HasType = HasLiteral (IsLocated IsType)

abbrev pub IsTypeWithin : ℕ → List ℕ → Type 0
IsTypeWithin = IsLiteralWithin (IsLocated IsType)

abbrev pub FailsType : ℕ → ℕ → List ℕ → LimitFailure → Type 0
FailsType = FailsLiteral (IsLocated IsType) NamesTypeError
