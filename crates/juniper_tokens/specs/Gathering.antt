-- What a cursor over all tokens that a lexer has left is, and what stands after it is made.
use Rattle.std.specs.Prelude.{◌≡◌, ◌⊎◌, List, Result, Ok, Err, true}
use Rattle.graphql_lexical.specs.Cutting.{Lexeme, Leads, CutAfter, BreaksAfter}
use Rattle.graphql_lexical.specs.Place.{Place}
use Rattle.graphql_lexical.specs.Kinds.{LexicalError}
use Rattle.juniper_tokens.specs.declared.span.Spanning.{Spanning}
use Rattle.juniper_tokens.specs.declared.error.LexerError.{LexerError}
use Rattle.juniper_tokens.specs.declared.error.LexFailure.{LexFailure}
use Rattle.juniper_tokens.specs.declared.error.LexFailure.TheVariants as failure
use Rattle.juniper_tokens.specs.Lexing.{LexerState, passed, ahead}

-- P holds of the fault, if there is one.
abbrev pub IfFault : {X : Type 0} → Result X LexFailure → (Spanning LexerError → Type 0) → Type 0
IfFault (Ok x) P = Unit {0}
IfFault (Err (failure.Fault fault)) P = P fault
IfFault (Err failure.Memory) P = Unit {0}

-- P holds where memory ran out, and Q elsewhere.
abbrev pub IfMemory : {X : Type 0} → Result X LexFailure → Type 0 → Type 0 → Type 0
IfMemory (Ok x) P Q = Q
IfMemory (Err (failure.Fault fault)) P Q = Q
IfMemory (Err failure.Memory) P Q = P

-- What a lexer has left is these tokens, each after ignored tokens, the last one and no other the end.
abbrev pub HasLeft : LexerState → List Lexeme → Type 0
HasLeft s tokens = CutAfter (passed s.source s.index) (ahead s.source s.index) tokens

-- What a lexer has left is tokens, each after ignored tokens, none of them the end, and then ignored tokens and a rest
-- with this lexical error at this position.
abbrev pub BreaksOff : LexerState → LexicalError → Place → Type 0
BreaksOff s error at = BreaksAfter (passed s.source s.index) (ahead s.source s.index) error at

-- The lexer stands after some of the tokens that were left, or has ended.
abbrev pub StandsLaterOrEnded : LexerState → LexerState → Type 0
StandsLaterOrEnded s t = ((tokens : List Lexeme) × Leads (passed s.source s.index) (ahead s.source s.index) tokens
    (passed s.source t.index) (ahead s.source t.index)) ⊎ (t.ended ≡ true)
