-- Errors of the code, as the definitions see them, and how they are shown.
use Rattle.std.specs.Prelude.{ℕ, List, ◌++◌, ◌==◌, Bool, true, false, codes, Result, Err}
use Rattle.std.specs.Str.{chars}
use Rattle.std.specs.String.{string_bytes}
use Rattle.graphql_lexical.specs.Place.{Span}
use Rattle.graphql_lexical.specs.declared.kind.Kind.{Kind}
use Rattle.graphql_lexical.specs.Kinds.{LexicalError}
use Rattle.graphql_lexical.specs.Kinds as kinds
use Rattle.graphql_lexical.specs.Display.{quoted, shown, error_text as lexical_text}
use Rattle.juniper_tokens.specs.declared.span.Spanning.{Spanning}
use Rattle.juniper_tokens.specs.declared.error.LexerError.{LexerError}
use Rattle.juniper_tokens.specs.declared.error.LexerError.TheVariants as lexer
use Rattle.juniper_tokens.specs.declared.error.ParseError.{ParseError}
use Rattle.juniper_tokens.specs.declared.error.ParseError.TheVariants as parse
use Rattle.juniper_tokens.specs.declared.error.LexFailure.{LexFailure}
use Rattle.juniper_tokens.specs.declared.error.LexFailure.TheVariants as lexing
use Rattle.juniper_tokens.specs.declared.error.ParseFailure.{ParseFailure}
use Rattle.juniper_tokens.specs.declared.error.ParseFailure.TheVariants as parsing
use Rattle.juniper_tokens.specs.Spans.{view_span}
use Rattle.juniper_tokens.specs.Tokens.{same_text}

-- why a text is refused
pub data Error : Type 0 where
  UnexpectedToken : List ℕ → Error
  UnexpectedEndOfFile : Error
  Lexical : LexicalError → Error
  ExpectedScalar : List ℕ → Error

-- the refusal of a token that may not stand there
abbrev pub unexpected : {A : Type 0} → Kind → List ℕ → Result A Error
unexpected kind text = Err (UnexpectedToken (shown kind text))

-- an error and its place
pub record Fault : Type 0 where
  pub error : Error
  pub span : Span

abbrev pub view_lexer_error : LexerError → LexicalError
view_lexer_error (lexer.UnknownCharacter c) = kinds.UnknownCharacter c
view_lexer_error (lexer.UnexpectedCharacter c) = kinds.UnexpectedCharacter c
view_lexer_error lexer.UnterminatedString = kinds.UnterminatedString
view_lexer_error (lexer.UnknownCharacterInString c) = kinds.UnknownCharacterInString c
view_lexer_error (lexer.UnknownEscapeSequence s) = kinds.UnknownEscapeSequence (chars (string_bytes s))
view_lexer_error lexer.UnexpectedEndOfFile = kinds.UnexpectedEndOfFile
view_lexer_error lexer.InvalidNumber = kinds.InvalidNumber

abbrev pub view_error : ParseError → Error
view_error (parse.UnexpectedToken s) = UnexpectedToken (chars (string_bytes s))
view_error parse.UnexpectedEndOfFile = UnexpectedEndOfFile
view_error (parse.LexerError e) = Lexical (view_lexer_error e)
view_error (parse.ExpectedScalarError t) = ExpectedScalar (chars t.now)

abbrev pub view_fault : Spanning ParseError → Fault
view_fault s = record { error = view_error s.item; span = view_span s.span }

-- of the same kind, with the same character or text
abbrev pub same_lexical_error : LexicalError → LexicalError → Bool
same_lexical_error (kinds.UnknownCharacter c) (kinds.UnknownCharacter d) = c == d
same_lexical_error (kinds.UnexpectedCharacter c) (kinds.UnexpectedCharacter d) = c == d
same_lexical_error kinds.UnterminatedString kinds.UnterminatedString = true
same_lexical_error (kinds.UnknownCharacterInString c) (kinds.UnknownCharacterInString d) = c == d
same_lexical_error (kinds.UnknownEscapeSequence s) (kinds.UnknownEscapeSequence t) = same_text s t
same_lexical_error kinds.UnexpectedEndOfFile kinds.UnexpectedEndOfFile = true
same_lexical_error kinds.InvalidNumber kinds.InvalidNumber = true
same_lexical_error d e = false

-- of the same kind, with the same text or lexical error
abbrev pub same_error : Error → Error → Bool
same_error (UnexpectedToken s) (UnexpectedToken t) = same_text s t
same_error UnexpectedEndOfFile UnexpectedEndOfFile = true
same_error (Lexical d) (Lexical e) = same_lexical_error d e
same_error (ExpectedScalar s) (ExpectedScalar t) = same_text s t
same_error d e = false

-- A text that is refused for a lexical error is refused at the error's place.
abbrev pub failure_of : LexFailure → ParseFailure
failure_of (lexing.Fault fault) = parsing.Refused (record { item = parse.LexerError fault.item; span = fault.span })
failure_of lexing.Memory = parsing.Memory

-- what is shown of an error
abbrev pub error_text : Error → List ℕ
error_text (UnexpectedToken t) = codes "Unexpected " ++ quoted t
error_text UnexpectedEndOfFile = codes "Unexpected end of input"
error_text (Lexical e) = lexical_text e
error_text (ExpectedScalar t) = t
