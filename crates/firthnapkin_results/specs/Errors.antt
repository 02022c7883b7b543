-- Why a source has no tree, as C gets it.
use Rattle.std.specs.Prelude.{ℕ, ◌+◌, ◌-◌, List, length}
use Rattle.graphql_lexical.specs.Place.{Span}
use Rattle.graphql_lexical.specs.Kinds.{LexicalError, UnknownCharacter, UnexpectedCharacter, UnterminatedString}
use Rattle.graphql_lexical.specs.Kinds.{UnknownCharacterInString, UnknownEscapeSequence, UnexpectedEndOfFile}
use Rattle.graphql_lexical.specs.Kinds.{InvalidNumber}
use Rattle.juniper_tokens.specs.Errors as errors
use Rattle.firthnapkin_results.specs.Positions.{bytes_before, written_position}
use Rattle.firthnapkin_results.specs.declared.error.Error.{Error}
use Rattle.firthnapkin_results.specs.declared.error.Reason.{Reason}
use Rattle.firthnapkin_results.specs.declared.error.Shown.{Shown}

abbrev pub because : ℕ → ℕ → ℕ → Reason
because kind detail character = record { kind = kind; detail = detail; character = character }

-- why there is no token, and the character that the error names
abbrev pub lexical_reason : LexicalError → Reason
lexical_reason (UnknownCharacter c) = because 2 1 c
lexical_reason (UnexpectedCharacter c) = because 2 2 c
lexical_reason UnterminatedString = because 2 3 0
lexical_reason (UnknownCharacterInString c) = because 2 4 c
lexical_reason (UnknownEscapeSequence t) = because 2 5 0
lexical_reason UnexpectedEndOfFile = because 2 6 0
lexical_reason InvalidNumber = because 2 7 0

abbrev pub error_reason : errors.Error → Reason
error_reason (errors.UnexpectedToken t) = because 0 0 0
error_reason errors.UnexpectedEndOfFile = because 1 0 0
error_reason (errors.Lexical e) = lexical_reason e
error_reason (errors.ExpectedScalar t) = because 5 0 0

abbrev pub deep_reason : Reason
deep_reason = because 3 0 0

abbrev pub many_reason : Reason
many_reason = because 4 0 0

abbrev pub unknown_reason : Reason
unknown_reason = because 6 0 0

abbrev pub cycle_reason : Reason
cycle_reason = because 7 0 0

-- ---- which characters of the source an error's words show

abbrev pub nothing_at : ℕ → Shown
nothing_at index = record { start = index; end = index }

-- An escape that is unknown begins with a backslash, and the error's position is after that.
abbrev pub escape_at : ℕ → List ℕ → Shown
escape_at at escape = record { start = at - 1; end = (at - 1) + length escape }

abbrev pub shown_of_lexical : LexicalError → ℕ → Shown
shown_of_lexical (UnknownCharacter c) at = nothing_at at
shown_of_lexical (UnexpectedCharacter c) at = nothing_at at
shown_of_lexical UnterminatedString at = nothing_at at
shown_of_lexical (UnknownCharacterInString c) at = nothing_at at
shown_of_lexical (UnknownEscapeSequence t) at = escape_at at t
shown_of_lexical UnexpectedEndOfFile at = nothing_at at
shown_of_lexical InvalidNumber at = nothing_at at

-- of an unexpected token all of it
abbrev pub shown_of_error : errors.Error → Span → Shown
shown_of_error (errors.UnexpectedToken t) span = record { start = span.start.index; end = span.end.index }
shown_of_error errors.UnexpectedEndOfFile span = nothing_at span.start.index
shown_of_error (errors.Lexical e) span = shown_of_lexical e span.start.index
shown_of_error (errors.ExpectedScalar t) span = nothing_at span.start.index

-- ---- errors

abbrev pub error_at : List ℕ → Reason → Span → Shown → Error
error_at source reason span shown = record {
  kind = reason.kind;
  detail = reason.detail;
  character = reason.character;
  start = written_position source span.start;
  end = written_position source span.end;
  text_start = bytes_before source shown.start;
  text_end = bytes_before source shown.end;
}

-- a refusal
abbrev pub written_error : List ℕ → errors.Fault → Error
written_error source found = error_at source (error_reason found.error) found.span
    (shown_of_error found.error found.span)

-- a token that is nested too deep
abbrev pub too_deep_error : List ℕ → Span → Error
too_deep_error source span = error_at source deep_reason span (nothing_at span.start.index)

-- a token that is one too many
abbrev pub too_many_tokens_error : List ℕ → Span → Error
too_many_tokens_error source span = error_at source many_reason span (nothing_at span.start.index)

-- a spread that names no fragment
abbrev pub unknown_fragment_error : List ℕ → Span → Error
unknown_fragment_error source span = error_at source unknown_reason span (nothing_at span.start.index)

-- a spread of a fragment in which it stands
abbrev pub fragment_cycle_error : List ℕ → Span → Error
fragment_cycle_error source span = error_at source cycle_reason span (nothing_at span.start.index)
