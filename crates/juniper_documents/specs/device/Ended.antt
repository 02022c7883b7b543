-- A device: the tokens of a source as far as they are within limits.
use Rattle.std.specs.Prelude.{◌≡◌, ◌+◌, ◌≤◌, ℕ, List, length, Option}
use Rattle.graphql_lexical.specs.Cutting.{Cut, Lexeme}
use Rattle.juniper_tokens.specs.declared.span.Span.{Span}
use Rattle.juniper_tokens.specs.Nesting.{EndsAtNesting}

-- Of a source that can be cut into few tokens these are those, ended after the first that is nested deeper.
abbrev pub EndsWithin : ℕ → ℕ → List ℕ → List Lexeme → Type 0
EndsWithin depth most source tokens = (lexemes : List Lexeme) (deep : Option Span) (new : List Lexeme)
    → Cut source lexemes → length lexemes ≤ most + 1 → EndsAtNesting depth lexemes deep new → tokens ≡ new
