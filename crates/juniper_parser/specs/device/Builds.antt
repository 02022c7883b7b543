-- A device: what a parse function returned, as what a step on the lexemes that were left gives.
use Rattle.std.specs.Prelude.{◌≡◌, List, Result, Ok, Err}
use Rattle.graphql_lexical.specs.Cutting.{Lexeme}
use Rattle.graphql_lexical.specs.Place.{Span}
use Rattle.juniper_tokens.specs.declared.error.ParseFailure.{ParseFailure}
use Rattle.juniper_tokens.specs.Cursor.{Read, Fails}
use Rattle.juniper_tokens.specs.Taking.{Taking, left, last_end}

-- This was built of what the step gives, and those lexemes are left.
pub record Makes {X A : Type 0} (built : X → A → Type 0) (x : X) (left : List Lexeme) (read : Read A) : Type 0 where
  pub part : A
  pub reads : read ≡ Ok (part, left)
  pub is_built : built x part

-- A call returned what it built of what the step gives, or the step's fault, and left those lexemes, unless memory ran out.
abbrev pub Builds : {X A : Type 0} → (X → A → Type 0) → Result X ParseFailure → List Lexeme → Read A → Type 0
Builds built (Ok x) left read = Makes built x left read
Builds built (Err e) left read = Fails e left read

-- The same with an error that is made of a parser's.
abbrev pub BuildsOr : {X A F : Type 0} → (ParseFailure → F → Type 0) → (X → A → Type 0) → Result X F → List Lexeme → Read A → Type 0
BuildsOr from built (Ok x) left read = Makes built x left read
BuildsOr from built (Err e) left read = (failure : ParseFailure) × from failure e × Fails failure left read

-- The same of items up to a closing token, which was taken last.
pub record MakesClosed {X A : Type 0} (built : X → List A → Type 0) (x : X) (new : Taking) (read : Read (List A × Span)) : Type 0 where
  pub parts : List A
  pub closing : Span
  pub last : closing.end ≡ last_end new
  pub reads : read ≡ Ok ((parts, closing), left new)
  pub is_built : built x parts

abbrev pub BuildsClosed : {X A : Type 0} → (X → List A → Type 0) → Result X ParseFailure → Taking → Read (List A × Span) → Type 0
BuildsClosed built (Ok x) new read = MakesClosed built x new read
BuildsClosed built (Err e) new read = Fails e (left new) read

-- The same, whatever is left.
abbrev pub BuildsAs : {X A F : Type 0} → (ParseFailure → F → Type 0) → (X → A → Type 0) → Result X F → Read A → Type 0
BuildsAs from built result read = (rest : List Lexeme) × BuildsOr from built result rest read

-- One thing was built, and then another.
abbrev pub BuildsBoth : {B X Y P Q : Type 0} → (B → B → X → P → Type 0) → (B → B → Y → Q → Type 0) → B → B → X × Y → P × Q → Type 0
BuildsBoth {B} first second old new xs ps = (between : B) × first old between xs.0 ps.0 × second between new xs.1 ps.1
