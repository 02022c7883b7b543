-- The steps of a cursor on the lexemes that are left.
use Rattle.std.specs.Prelude.{◌≡◌, ℕ, Bool, ◌&&◌, List, [], ◌∷◌, Result, Ok, Err, Option, Some, None, if◌then◌else◌}
use Rattle.std.specs.Option.{is_none}
pub use Rattle.graphql_lexical.specs.Place.{nowhere}
use Rattle.graphql_lexical.specs.declared.kind.Kind.{Kind}
use Rattle.graphql_lexical.specs.declared.kind.Kind.TheVariants.{Name, At, EndOfFile}
use Rattle.graphql_lexical.specs.Kinds.{same_kind, spelling, fixed_text}
use Rattle.graphql_lexical.specs.Cutting.{Lexeme}
pub use Rattle.graphql_lexical.specs.Cutting.{EndsOnce}
use Rattle.graphql_lexical.specs.Display.{shown}
use Rattle.juniper_tokens.specs.declared.token.Token.{Token}
use Rattle.juniper_tokens.specs.declared.error.ParseFailure.{ParseFailure}
use Rattle.juniper_tokens.specs.declared.error.ParseFailure.TheVariants as failures
use Rattle.juniper_tokens.specs.Tokens.{token_kind, token_text, same_text}
use Rattle.juniper_tokens.specs.Errors.{UnexpectedToken, UnexpectedEndOfFile, Fault, view_fault}

-- What a step gives: a value, or a fault, and the lexemes that are left.
abbrev pub Read : Type 0 → Type 0
Read A = Result (A × List Lexeme) (Fault × List Lexeme)

infixl 10 ◌>>=◌
abbrev pub ◌>>=◌ : {A B : Type 0} → Read A → ((A × List Lexeme) → Read B) → Read B
(Ok x) >>= f = f x
(Err e) >>= f = Err e

-- A call was refused and left those lexemes: that is what the step gives, unless memory ran out.
abbrev pub Fails : {Y : Type 0} → ParseFailure → List Lexeme → Read Y → Type 0
Fails (failures.Refused e) left read = read ≡ Err (view_fault e, left)
Fails failures.Memory left read = Unit {0}

-- A call returned this and left those lexemes: that is what the step gives, unless memory ran out.
abbrev pub Gives : {X Y : Type 0} → (X → Y) → Result X ParseFailure → List Lexeme → Read Y → Type 0
Gives view (Ok x) left read = read ≡ Ok (view x, left)
Gives view (Err e) left read = Fails e left read

-- What stands at no place: a list that ends in an end of file has a first lexeme.
abbrev pub no_lexeme : Lexeme
no_lexeme = record { kind = At; text = []; span = nowhere }

-- the lexeme that stands next
abbrev pub first_of : List Lexeme → Lexeme
first_of [] = no_lexeme
first_of (t ∷ ts) = t

abbrev pub kind_at : List Lexeme → Kind
kind_at ts = (first_of ts).kind

-- the kind leaves the text open
abbrev pub has_text : Kind → Bool
has_text kind = is_none (fixed_text (spelling kind))

-- the lexeme equals the wanted token in kind and text
abbrev pub is_wanted : Kind → List ℕ → Lexeme → Bool
is_wanted kind text t = if has_text kind then same_kind t.kind kind && same_text t.text text else same_kind t.kind kind

-- The next lexeme is taken; at the end it stays.
abbrev pub next_at : List Lexeme → Read Lexeme
next_at [] = Err (record { error = UnexpectedEndOfFile; span = nowhere }, [])
next_at (t ∷ ts) = if same_kind t.kind EndOfFile
    then Err (record { error = UnexpectedEndOfFile; span = t.span }, t ∷ ts) else Ok (t, ts)

-- The result is the refusal at the end.
abbrev pub RefusesEnd : {X : Type 0} → Result X ParseFailure → List Lexeme → Type 0
RefusesEnd (Ok x) ts = ⊥
RefusesEnd (Err (failures.Refused e)) ts = view_fault e
    ≡ record { error = UnexpectedEndOfFile; span = (first_of ts).span }
RefusesEnd (Err failures.Memory) ts = ⊥

-- The next lexeme is taken, and reported as unexpected; at the end it stays.
abbrev pub refused_at : {A : Type 0} → List Lexeme → Read A
refused_at ts = next_at ts
    >>= λ t. Err (record { error = UnexpectedToken (shown t.0.kind t.0.text); span = t.0.span }, t.1)

-- the next lexeme, which has to pass a test
abbrev pub next_if : Bool → List Lexeme → Read Lexeme
next_if passes ts = if passes then next_at ts else refused_at ts

unfoldable pub expect_at : Token → List Lexeme → Read Lexeme
expect_at wanted ts = next_if (is_wanted (token_kind wanted) (token_text wanted) (first_of ts)) ts

abbrev pub expect_name_at : List Lexeme → Read Lexeme
expect_name_at ts = next_if (same_kind (kind_at ts) Name) ts

-- The wanted lexeme is taken, if it stands next.
abbrev pub skip_if : Bool → List Lexeme → Read (Option Lexeme)
skip_if passes ts =
    if passes
    then (next_at ts >>= λ t. Ok (Some t.0, t.1))
    else if same_kind (kind_at ts) EndOfFile
    then Err (record { error = UnexpectedEndOfFile; span = (first_of ts).span }, ts)
    else Ok (None, ts)

unfoldable pub skip_at : Token → List Lexeme → Read (Option Lexeme)
skip_at wanted ts = skip_if (is_wanted (token_kind wanted) (token_text wanted) (first_of ts)) ts

-- Where memory ran out, P holds.
abbrev pub OnMemory : {X : Type 0} → Result X ParseFailure → Type 0 → Type 0
OnMemory (Ok x) P = Unit {0}
OnMemory (Err (failures.Refused e)) P = Unit {0}
OnMemory (Err failures.Memory) P = P

-- the step reports that a token is unexpected, whose text takes memory
abbrev pub WantsText : {A : Type 0} → Read A → Type 0
WantsText (Ok x) = ⊥
WantsText (Err f) = elim f.0.error [ UnexpectedToken t ↦ Unit {0} | _ ↦ ⊥ ]

-- Nothing was taken, and memory was needed for the text of an error alone.
pub record Unmoved {A : Type 0} (old new : List Lexeme) (step : Read A) : Type 0 where
  pub same : new ≡ old
  pub wants : WantsText step
