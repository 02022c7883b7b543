-- Lexer errors are compared as their views are.
use Rattle.std.proofs.Common.{◌≡◌, Bool, refl}
use Rattle.std.proofs.lemmas.Str.{IsUtf8-string_bytes}
use Rattle.juniper_tokens.specs.Errors.{view_lexer_error, same_lexical_error}
use Rattle.juniper_tokens.specs.declared.error.LexerError.{LexerError}
use Rattle.juniper_tokens.specs.declared.error.LexerError.TheVariants as lexer
use Rattle.juniper_tokens.specs.contracts.error.LexerErrorPartialEq.TheImpl as derived
use Rattle.juniper_tokens.proofs.Texts.{pointwise-chars}

-- the equality that is derived
abbrev equal : LexerError → LexerError → Bool
equal = (derived.ghosts).eq

pub equal-same_lexical_error : (a b : LexerError)
    → equal a b ≡ same_lexical_error (view_lexer_error a) (view_lexer_error b)
equal-same_lexical_error (lexer.UnknownCharacter c) (lexer.UnknownCharacter d) = refl
equal-same_lexical_error (lexer.UnexpectedCharacter c) (lexer.UnexpectedCharacter d) = refl
equal-same_lexical_error lexer.UnterminatedString lexer.UnterminatedString = refl
equal-same_lexical_error (lexer.UnknownCharacterInString c) (lexer.UnknownCharacterInString d) = refl
equal-same_lexical_error (lexer.UnknownEscapeSequence s) (lexer.UnknownEscapeSequence t) =
    pointwise-chars _ _ (IsUtf8-string_bytes s) (IsUtf8-string_bytes t)
equal-same_lexical_error lexer.UnexpectedEndOfFile lexer.UnexpectedEndOfFile = refl
equal-same_lexical_error lexer.InvalidNumber lexer.InvalidNumber = refl
equal-same_lexical_error a b = refl
