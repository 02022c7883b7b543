-- What is promised for a text, in the words of the grammar.
use Rattle.std.specs.Prelude.{◌≡◌, ◌≤◌, ℕ, Bool, List, [], ◌∷◌, ◌++◌, length, Result, Ok, Err, if◌then◌else◌}
use Rattle.graphql_lexical.specs.Place.{Place}
use Rattle.graphql_lexical.specs.declared.kind.Kind.{Kind}
use Rattle.graphql_lexical.specs.declared.kind.Kind.TheVariants.{EndOfFile}
use Rattle.graphql_lexical.specs.Kinds.{LexicalError, same_kind}
use Rattle.graphql_lexical.specs.Cutting.{Lexeme, Cut, Breaks}
use Rattle.graphql_lexical.specs.Display.{shown}
use Rattle.graphql_grammar.specs.Tree.{Scalars, Value, TypeRef, Definition}
use Rattle.graphql_grammar.specs.Grammar.{IsLocated, IsValue, IsType, IsDocument}
use Rattle.graphql_grammar.specs.Faults.{DocumentRefusedAt, ValueRefusedAt, TypeRefusedAt}
use Rattle.graphql_grammar.specs.Texts.{BeginsText}
use Rattle.graphql_grammar.specs.Tokens.{Located}
use Rattle.juniper_tokens.specs.declared.error.ParseError.{ParseError}
use Rattle.juniper_tokens.specs.declared.error.ParseFailure.{ParseFailure}
use Rattle.juniper_tokens.specs.declared.error.ParseFailure.TheVariants as failure
use Rattle.juniper_tokens.specs.declared.span.Spanning.{Spanning}
use Rattle.juniper_tokens.specs.Errors.{Error, UnexpectedToken, UnexpectedEndOfFile, Lexical, Fault, view_fault}
use Rattle.juniper_tokens.specs.Cursor.{Read, Fails}

-- a lexical error, of zero width
abbrev pub lexical_fault : LexicalError → Place → Fault
lexical_fault error at = record { error = Lexical error; span = record { start = at; end = at } }

-- A token is reported by what is shown of it.
abbrev pub unexpected : Kind → List ℕ → Error
unexpected kind text = UnexpectedToken (shown kind text)

-- the tokens past the refused one, which is taken unless it is the end
abbrev pub past : List Lexeme → List Lexeme
past [] = []
past (t ∷ ts) = if same_kind t.kind EndOfFile then t ∷ ts else ts

module _ {C : Type 0} (S : Scalars C Error) where
  -- The text can be cut into tokens, they are a document with this tree, and the text has no other.
  pub record HasTree (source : List ℕ) (tree : List (Definition C)) : Type 0 where
    pub lexemes : List Lexeme
    pub cut : Cut source lexemes
    pub document : IsDocument S tree lexemes
    pub only : (others : List Lexeme) (other : List (Definition C)) → Cut source others → IsDocument S other others
        → other ≡ tree

-- The text is refused at its first lexical error, if it has one, and else at the first token that no document could
-- have there, with the error that the grammar names for it. The text up to the end of the token before that one, and a
-- space, can be completed to a document's text; up to that one's end it can't.
pub data IsRefusal {C : Type 0} (S : Scalars C Error) (source : List ℕ) : Fault → Type 0 where
  lexical : {error : LexicalError} {at : Place} → Breaks source error at → IsRefusal S source (lexical_fault error at)
  grammatical : {ts before : List Lexeme} {t : Lexeme} {error : Error} → Cut source ts
      → DocumentRefusedAt UnexpectedEndOfFile unexpected S ts before t error
      → BeginsText S source before → (BeginsText S source (before ++ t ∷ []) → ⊥)
      → IsRefusal S source (record { error = error; span = t.span })

-- Where a text was refused, P holds of the error and its place.
abbrev pub IfRefused : {X : Type 0} → Result X ParseFailure → (Spanning ParseError → Type 0) → Type 0
IfRefused (Err (failure.Refused fault)) P = P fault
IfRefused _ P = Unit {0}

-- The result is what the reading gives, unless memory ran out. Nothing is said of what it leaves.
abbrev pub ReturnsAs : {X Y : Type 0} → (X → Y) → Result X ParseFailure → Read Y → Type 0
ReturnsAs view (Ok x) read = (left : List Lexeme) × (read ≡ Ok (view x, left))
ReturnsAs view (Err e) read = (left : List Lexeme) × Fails e left read

-- ---- literals

module _ {A : Type 0} (R : A → List Lexeme → Type 0) where
  -- A prefix of the tokens that were left means x, and was taken.
  pub record Takes (x : A) (old left : List Lexeme) : Type 0 where
    pub taken : List Lexeme
    pub whole : old ≡ taken ++ left
    pub means : R x taken

  -- No prefix of the tokens means anything. The fault has the span of the token at which they are refused, and names
  -- its error. That token is taken, unless it is the end.
  pub record Refuses (Refused : List Lexeme → List Lexeme → Lexeme → Error
      → Type 0) (fault : Fault) (old left : List Lexeme) : Type 0 where
    pub none : (us vs : List Lexeme) (y : A) → old ≡ us ++ vs → R y us → ⊥
    pub before : List Lexeme
    pub token : Lexeme
    pub after : List Lexeme
    pub whole : old ≡ before ++ token ∷ after
    pub refused : Refused old before token fault.error
    pub span : fault.span ≡ token.span
    pub leaves : left ≡ past (token ∷ after)

-- The one prefix that is a value was taken, or none is one.
abbrev pub ReturnsValue : {X C : Type 0} → Scalars C Error → Bool → (X → Located (Value C)) → Result X ParseFailure
    → List Lexeme → List Lexeme → Type 0
ReturnsValue {C = C} S free view (Ok x) old left = Takes (IsLocated (IsValue S free)) (view x) old left
    × ((us vs : List Lexeme) (y : Located (Value C)) → old ≡ us ++ vs → IsLocated (IsValue S free) y us → (vs ≡ left)
    × (y ≡ view x))
ReturnsValue S free view (Err (failure.Refused e)) old left =
    Refuses (IsLocated (IsValue S free)) (ValueRefusedAt UnexpectedEndOfFile unexpected S free) (view_fault e) old left
ReturnsValue S free view (Err failure.Memory) old left = Unit {0}

-- The longest prefix that is a type was taken, or none is one.
abbrev pub ReturnsType : {X : Type 0} → (X → Located TypeRef) → Result X ParseFailure → List Lexeme → List Lexeme
    → Type 0
ReturnsType view (Ok x) old left = Takes (IsLocated IsType) (view x) old left
    × ((us vs : List Lexeme) (y : TypeRef) → old ≡ us ++ vs → IsType y us → length left ≤ length vs)
ReturnsType view (Err (failure.Refused e)) old left =
    Refuses IsType (TypeRefusedAt UnexpectedEndOfFile unexpected) (view_fault e) old left
ReturnsType view (Err failure.Memory) old left = Unit {0}
