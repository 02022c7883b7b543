-- A device: tokens that are nested too deep, and what is counted up to the first of them.
use Rattle.std.specs.Prelude.{◌≡◌, ℕ, ◌<◌, List, length, pos, ◌≤ℤ◌, Option, Some, None}
use Rattle.graphql_lexical.specs.Cutting.{Lexeme}
use Rattle.graphql_lexical.specs.Nesting.{opened, closed, IsFirstDeeper}
use Rattle.graphql_lexical.specs.Place.{place}
use Rattle.graphql_lexical.specs.device.Indexed.{nesting_at}
use Rattle.juniper_tokens.specs.declared.check.Brackets.{Brackets}
use Rattle.juniper_tokens.specs.declared.span.Span.{Span}
use Rattle.juniper_tokens.specs.declared.token_range.TokenRange.{TokenRange}
use Rattle.juniper_tokens.specs.Lexing.{LexerState}
use Rattle.juniper_tokens.specs.Nesting.{IsShallow}
use Rattle.juniper_tokens.specs.Spans.{view_span}

-- no token's nesting exceeds depth
abbrev pub IsShallowAt : ℕ → List Lexeme → Type 0
IsShallowAt depth ts = (i : ℕ) → i < length ts → nesting_at ts i ≤ℤ pos depth

-- the token of a range, at whose end the lexer stands
abbrev pub IsOfRange : LexerState → TokenRange → Lexeme → Type 0
IsOfRange lexer r t = (t.kind ≡ r.kind)
    × (t.span ≡ record { start = place lexer.source r.start.characters; end = place lexer.source lexer.index })

-- Of these tokens none is nested deeper, and so many brackets are opened and closed; or this is the span of the first
-- that is.
abbrev pub NestedAs : ℕ → List Lexeme → ℕ → ℕ → Option Span → Type 0
NestedAs depth ts o c None = IsShallow depth ts × (o ≡ opened ts) × (c ≡ closed ts)
NestedAs depth ts o c (Some span) = (before : List Lexeme) × (t : Lexeme) × IsFirstDeeper depth ts before t
    × (view_span span ≡ t.span)

abbrev pub AreNested : ℕ → List Lexeme → Brackets → Type 0
AreNested depth ts brackets = NestedAs depth ts brackets.opened brackets.closed brackets.deep
