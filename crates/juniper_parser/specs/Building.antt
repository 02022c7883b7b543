-- What is built of the parts of a document while they are read. A builder goes from one state to another as it builds a part.
use Rattle.std.specs.Prelude.{◌≡◌, ℕ, List, [], ◌∷◌, Option, Some, None, Result, Ok, Err}
use Rattle.graphql_grammar.specs.Tokens.{Word, Located}
use Rattle.graphql_grammar.specs.Tree.{Scalars, TypeRef, Selection, Selections, selections_of, OptionalSelections}
use Rattle.graphql_grammar.specs.Tree.{absent, present, Definition, Value, Scalar}
use Rattle.graphql_grammar.specs.declared.operation.OperationType.{OperationType}
use Rattle.graphql_lexical.specs.Place.{Span}
use Rattle.juniper_tokens.specs.Errors.{Error, view_error}
use Rattle.juniper_tokens.specs.Spans.{view_span}
use Rattle.juniper_tokens.specs.declared.error.ParseFailure.{ParseFailure}
use Rattle.juniper_tokens.specs.declared.error.ParseFailure.TheVariants as parses
use Rattle.juniper_values.specs.Scalar.{Content, Reading}
use Rattle.juniper_values.specs.declared.scalar.ReadFailure.{ReadFailure}
use Rattle.juniper_values.specs.declared.scalar.ReadFailure.TheVariants as reads
use Rattle.juniper_parser.specs.Promise.{HasTree}

-- A part whose children are built next, by what is known of it then.
pub data Opened : Type 0 where
  a_list : Opened
  an_object : Opened
  an_object_field : Word → Opened
  some_arguments : Opened
  an_argument : Word → Opened
  a_directive : Word → Opened
  -- alias and name
  a_field : Option Word → Word → Opened
  a_spread : Word → Opened
  -- type condition
  an_inline_fragment : Option Word → Opened
  some_variables : Opened
  -- name and type
  a_variable : Word → Located TypeRef → Opened
  -- type and name
  an_operation : OperationType → Option Word → Opened
  -- name and type condition
  a_fragment : Word → Word → Opened

module _ {B X A : Type 0} (built : B → B → X → A → Type 0) where
  -- One after another, from one state to another, these were built of these parts.
  abbrev pub BuildsEach : B → B → List X → List A → Type 0
  BuildsEach old new [] [] = old ≡ new
  BuildsEach old new [] (p ∷ ps) = ⊥
  BuildsEach old new (x ∷ xs) [] = ⊥
  BuildsEach old new (x ∷ xs) (p ∷ ps) = (b : B) × built old b x p × BuildsEach b new xs ps

  -- This was built of this part, or nothing of none.
  abbrev pub BuildsOptional : B → B → Option X → Option A → Type 0
  BuildsOptional old new None None = old ≡ new
  BuildsOptional old new None (Some p) = ⊥
  BuildsOptional old new (Some x) None = ⊥
  BuildsOptional old new (Some x) (Some p) = built old new x p

-- A scalar type made no scalar of a token of which it states this: the error is the stated one, unless memory ran out.
abbrev pub FailsReading : Reading → ReadFailure → Type 0
FailsReading reading (reads.Refused e) = reading ≡ Err (view_error e)
FailsReading reading reads.Memory = Unit {0}

-- The same of what a parser returns then, with the token's span.
abbrev pub IsUnread : Reading → Span → ParseFailure → Type 0
IsUnread reading span (parses.Refused fault) = (reading ≡ Err (view_error fault.item)) × (view_span fault.span ≡ span)
IsUnread reading span parses.Memory = Unit {0}

-- By the reading of a token with this span its scalar was built, or it wasn't read.
abbrev pub BuildsRead : {X : Type 0} → (X → Located (Value Content) → Type 0) → Reading → Span
    → Result X ParseFailure → Type 0
BuildsRead built reading span (Ok x) =
    (content : Content) × (reading ≡ Ok content) × built x (record { item = Scalar content; span = span })
BuildsRead built reading span (Err failure) = IsUnread reading span failure

module _ {B L X A : Type 0} (built : B → B → X → A → Type 0) (gathered : L → List X) where
  -- The same of what a list has gathered.
  abbrev pub BuildsList : B → B → L → List A → Type 0
  BuildsList old new parts ps = BuildsEach built old new (gathered parts) ps

module _ {B L X C : Type 0} (built : B → B → X → Selection C → Type 0) (gathered : L → List X) where
  -- The same of the selections of a set.
  pub record BuildsSet (old new : B) (parts : L) (set : Selections C) : Type 0 where
    pub selections : List (Selection C)
    pub are : selections_of selections ≡ set
    pub are_built : BuildsEach built old new (gathered parts) selections

  -- The same of a set, or nothing of none.
  abbrev pub BuildsOptionalSet : B → B → Option L → OptionalSelections C → Type 0
  BuildsOptionalSet old new None absent = old ≡ new
  BuildsOptionalSet old new None (present set) = ⊥
  BuildsOptionalSet old new (Some parts) absent = ⊥
  BuildsOptionalSet old new (Some parts) (present set) = BuildsSet old new parts set

module _ {B L X C : Type 0} (built : B → B → X → Definition C → Type 0) (gathered : L → List X) where
  -- The source has a tree, and this was built of its definitions.
  pub record BuildsTree (S : Scalars C Error) (source : List ℕ) (old new : B) (parts : L) : Type 0 where
    pub tree : List (Definition C)
    pub has_tree : HasTree S source tree
    pub are_built : BuildsEach built old new (gathered parts) tree
