-- How a token and a lexical error are shown.
use Rattle.std.specs.Prelude.{ℕ, List, [], ◌∷◌, ◌++◌, codes, if◌then◌else◌, flat_map}
use Rattle.graphql_lexical.specs.Characters.{Text, is_among}
use Rattle.graphql_lexical.specs.Kinds.{Kind, Name, String, BlockString, Float, Int, ExclamationMark, Dollar, ParenOpen, ParenClose, BracketOpen, BracketClose, CurlyOpen, CurlyClose, Ellipsis, Colon, Equals, At, Pipe, EndOfFile, LexicalError, UnknownCharacter, UnexpectedCharacter, UnterminatedString, UnknownCharacterInString, UnknownEscapeSequence, UnexpectedEndOfFile, InvalidNumber}
use Rattle.graphql_lexical.specs.Tokens.{mark}

-- a text between quotes
abbrev pub quoted : List ℕ → List ℕ
quoted cs = codes "\"" ++ (cs ++ codes "\"")

-- a quote and a backslash have a backslash before them
abbrev pub escape : ℕ → List ℕ
escape c = if is_among (codes "\"\\") c then codes "\\" ++ c ∷ [] else c ∷ []

abbrev pub escaped : List ℕ → List ℕ
escaped cs = flat_map escape cs

-- What is shown of a token of this kind and text.
abbrev pub shown : Kind → Text → Text
shown Name text = text
shown String text = quoted (escaped text)
shown BlockString text = mark ++ (text ++ mark)
shown Float text = text
shown Int text = text
shown ExclamationMark text = text
shown Dollar text = text
shown ParenOpen text = text
shown ParenClose text = text
shown BracketOpen text = text
shown BracketClose text = text
shown CurlyOpen text = text
shown CurlyClose text = text
shown Ellipsis text = text
shown Colon text = text
shown Equals text = text
shown At text = text
shown Pipe text = text
shown EndOfFile text = codes "End of file"

-- What is shown of a lexical error.
abbrev pub error_text : LexicalError → List ℕ
error_text (UnknownCharacter c) = codes "Unknown character " ++ quoted (c ∷ [])
error_text (UnexpectedCharacter c) = codes "Unexpected character " ++ quoted (c ∷ [])
error_text UnterminatedString = codes "Unterminated string literal"
error_text (UnknownCharacterInString c) = codes "Unknown character " ++ quoted (c ∷ []) ++ codes " in string literal"
error_text (UnknownEscapeSequence s) = codes "Unknown escape sequence " ++ quoted s ++ codes " in string"
error_text UnexpectedEndOfFile = codes "Unexpected end of input"
error_text InvalidNumber = codes "Invalid number literal"
