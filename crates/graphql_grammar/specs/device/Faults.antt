-- A device: why a reader refuses a token, and the error that is made of it.
use Rattle.std.specs.Prelude.{Bool, ◌≡◌, ◌≢◌, Err, IsErr, List}
use Rattle.graphql_lexical.specs.declared.kind.Kind.{Kind}
use Rattle.graphql_lexical.specs.declared.kind.Kind.TheVariants.{EndOfFile}
use Rattle.graphql_lexical.specs.Cutting.{Lexeme}
use Rattle.graphql_grammar.specs.Tokens.{Text, IsSpelled}
use Rattle.graphql_grammar.specs.Tree.{Scalars}
use Rattle.graphql_grammar.specs.Grammar.{IsScalarKind, IsValue, IsType, IsDocument, IsLocated}
use Rattle.graphql_grammar.specs.device.AlikeFaults.{AnyToken, AtFaultAlike, ValueMayStandAlike}

-- The last is the error of the scalar type's own reading.
pub data Fault (F : Type 0) : Type 0 where
  UnexpectedEndOfFile : Fault F
  UnexpectedToken : Kind → Text → Fault F
  ScalarError : F → Fault F

-- the error of a fault, by that of the end and that of another token
abbrev pub as_error : {F : Type 0} → F → (Kind → Text → F) → Fault F → F
as_error at_end unexpected UnexpectedEndOfFile = at_end
as_error at_end unexpected (UnexpectedToken kind text) = unexpected kind text
as_error at_end unexpected (ScalarError e) = e

module _ (Allowed : Lexeme → Type 0) where
  -- The fault of t, which is refused after the tokens before it.
  abbrev pub NamesFault : {C F A : Type 0} → Scalars C F → (A → List Lexeme → Type 0) → List Lexeme → Lexeme → Fault F → Type 0
  NamesFault S R before t UnexpectedEndOfFile = t.kind ≡ EndOfFile
  NamesFault S R before t (ScalarError e) = IsScalarKind t.kind × (S.read t.kind t.text ≡ Err e) × ValueMayStandAlike Allowed R before
  NamesFault S R before t (UnexpectedToken kind text) = (kind ≡ t.kind) × (text ≡ t.text) × (t.kind ≢ EndOfFile)
      × (IsScalarKind t.kind → IsErr (S.read t.kind t.text) → ValueMayStandAlike Allowed R before → ⊥)

abbrev pub DocumentFaultAt : {C F : Type 0} → Scalars C F → List Lexeme → List Lexeme → Lexeme → Fault F → Type 0
DocumentFaultAt S ts before t e = AtFaultAlike IsSpelled (IsDocument S) ts before t × NamesFault IsSpelled S (IsDocument S) before t e

abbrev pub ValueFaultAt : {C F : Type 0} → Scalars C F → Bool → List Lexeme → List Lexeme → Lexeme → Fault F → Type 0
ValueFaultAt S free ts before t e = AtFaultAlike AnyToken (IsLocated (IsValue S free)) ts before t × NamesFault AnyToken S (IsLocated (IsValue S free)) before t e

abbrev pub TypeFault : {F : Type 0} → Lexeme → Fault F → Type 0
TypeFault t UnexpectedEndOfFile = t.kind ≡ EndOfFile
TypeFault t (UnexpectedToken kind text) = (kind ≡ t.kind) × (text ≡ t.text) × (t.kind ≢ EndOfFile)
TypeFault t (ScalarError e) = ⊥

abbrev pub TypeFaultAt : {F : Type 0} → List Lexeme → List Lexeme → Lexeme → Fault F → Type 0
TypeFaultAt ts before t e = AtFaultAlike AnyToken IsType ts before t × TypeFault t e
