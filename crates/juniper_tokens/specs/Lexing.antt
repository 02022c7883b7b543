-- A lexer, and what its steps give.
use Rattle.std.specs.Prelude.{◌≡◌, ◌↔◌, ℕ, ◌+◌, Bool, true, false, List, take, drop, length, Option, Some, None, Result, Ok, Err, if◌then◌else◌}
use Rattle.graphql_lexical.specs.Characters.{Text}
use Rattle.graphql_lexical.specs.Place.{Place}
use Rattle.graphql_lexical.specs.declared.kind.Kind.TheVariants.{EndOfFile}
use Rattle.graphql_lexical.specs.Kinds.{LexicalError, UnknownEscapeSequence}
use Rattle.graphql_lexical.specs.Cutting.{Lexeme, Stands, BreaksThere}
use Rattle.juniper_tokens.specs.declared.span.Spanning.{Spanning}
use Rattle.juniper_tokens.specs.declared.token.Token.{Token}
use Rattle.juniper_tokens.specs.declared.error.LexerError.{LexerError}
use Rattle.juniper_tokens.specs.declared.error.LexFailure.{LexFailure}
use Rattle.juniper_tokens.specs.declared.error.LexFailure.TheVariants as failure
use Rattle.juniper_tokens.specs.Tokens.{token_kind, view_token}
use Rattle.juniper_tokens.specs.Errors.{view_lexer_error}

-- a source, the character where the lexer stands, and whether it has ended
pub record LexerState : Type 0 where
  pub source : List ℕ
  pub index : ℕ
  pub ended : Bool

abbrev pub started : List ℕ → LexerState
started source = record { source = source; index = 0; ended = false }

-- the first k characters of a source
abbrev pub passed : Text → ℕ → Text
passed source k = take k source

-- what comes after them
abbrev pub ahead : Text → ℕ → Text
ahead source k = drop k source

-- The token comes next where the lexer stood, which then stands after it.
abbrev pub PassesToken : LexerState → Lexeme → ℕ → Type 0
PassesToken s x next =
    Stands (passed s.source s.index) (ahead s.source s.index) x (passed s.source next) (ahead s.source next)

-- Where the lexer stood ignored tokens come next, and then a rest with this lexical error at this position.
abbrev pub MeetsError : LexerState → LexicalError → Place → Type 0
MeetsError s error at = BreaksThere (passed s.source s.index) (ahead s.source s.index) error at

-- A token stands where the lexer did, which is then after it, and has ended where the token is the end.
pub record GivesToken (s : LexerState) (token : Spanning Token) (t : LexerState) : Type 0 where
  pub stands : PassesToken s (view_token token) t.index
  pub ends : (t.ended ≡ true) ↔ (token_kind token.item ≡ EndOfFile)

-- A lexical error of zero width stands where the lexer did, which has then ended.
pub record GivesFault (s : LexerState) (fault : Spanning LexerError) (t : LexerState) : Type 0 where
  pub breaks : MeetsError s (view_lexer_error fault.item) fault.span.start
  pub zero_width : fault.span.end ≡ fault.span.start
  pub ends : t.ended ≡ true

-- There was no memory for the text of the escape that is the error where the lexer stood, which has then ended.
pub record WantsMemory (s : LexerState) (t : LexerState) : Type 0 where
  pub text : List ℕ
  pub at : Place
  pub breaks : MeetsError s (UnknownEscapeSequence text) at
  pub ends : t.ended ≡ true

abbrev pub GivesItem : LexerState → Result (Spanning Token) LexFailure → LexerState → Type 0
GivesItem s (Ok token) t = GivesToken s token t
GivesItem s (Err (failure.Fault fault)) t = GivesFault s fault t
GivesItem s (Err failure.Memory) t = WantsMemory s t

-- From state s a step gives this item and leaves state t. Only a lexer that has ended gives None, and it stays as it
-- is.
abbrev pub lexer_steps : LexerState → Option (Result (Spanning Token) LexFailure) → LexerState → Type 0
lexer_steps s None t = (s.ended ≡ true) × (t ≡ s)
lexer_steps s (Some item) t = (s.ended ≡ false) × (t.source ≡ s.source) × GivesItem s item t

-- No more items come before None.
abbrev pub items_left : LexerState → ℕ
items_left s = if s.ended then 0 else length (ahead s.source s.index) + 1
