-- What is returned for a source's tokens, and what is put into a buffer.
use Rattle.std.specs.Prelude.{◌≡◌, ◌<◌, ◌≤◌, ◌+◌, ◌^◌, ℕ, List, [], length, IsUtf8, chars, Result, Ok, Err}
use Rattle.graphql_lexical.specs.Place.{Place, Span}
use Rattle.graphql_lexical.specs.Kinds.{LexicalError}
use Rattle.graphql_lexical.specs.Cutting.{Lexeme, Leads}
use Rattle.juniper_parser.specs.Promise.{lexical_fault}
use Rattle.firthnapkin_results.specs.Errors.{written_error, too_many_tokens_error}
use Rattle.firthnapkin_results.specs.Answers.{Fills}
use Rattle.juniper_tokens.specs.Counting.{HasMore}
use Rattle.firthnapkin_results.specs.Sources.{IsUnread}
use Rattle.firthnapkin_results.specs.declared.source.Unread.{Unread}
use Rattle.firthnapkin_results.specs.declared.source.Unread.TheVariants as unread
use Rattle.firthnapkin_results.specs.Tokens.{written_tokens, HasTokens, HasErrorAfter}
use Rattle.firthnapkin_results.specs.declared.token.Token.{Token}
use Rattle.firthnapkin_results.specs.declared.tokens.Written.{Written}
use Rattle.firthnapkin_results.specs.declared.tokens.Written.TheVariants as written

-- What the buffer has where nothing is known of the source: what it had, or some of the first tokens, where memory ran
-- out.
abbrev pub IsLeft : List ℕ → List Token → List Token → Unread → Type 0
IsLeft source old new unread.NotUtf8 = new ≡ old
IsLeft source old new unread.TooLong = new ≡ old
IsLeft source old new unread.OutOfMemory = (some : List Lexeme) × (done after : List ℕ)
    × Leads [] (chars source) some done after × Fills (written_tokens (chars source) some) old new

-- For a source and a limit on its tokens: the buffer before, the buffer then, and what is returned.
abbrev pub ReturnsTokens : List ℕ → ℕ → List Token → List Token → Result Written Unread → Type 0
ReturnsTokens source most old new (Ok (written.Tokens count)) = (length source < 2 ^ 32)
    × ((lexemes : List Lexeme) × HasTokens source lexemes
    × (length lexemes ≤ most + 1) × Fills (written_tokens (chars source) lexemes) old new × (count ≡ length lexemes))
ReturnsTokens source most old new (Ok (written.Refused count error)) = (length source < 2 ^ 32)
    × ((before : List Lexeme) × (lexical : LexicalError) × (at : Place)
    × HasErrorAfter source before lexical at × (length before ≤ most)
    × Fills (written_tokens (chars source) before) old new
    × (count ≡ length before) × (error ≡ written_error (chars source) (lexical_fault lexical at)))
ReturnsTokens source most old new (Ok (written.Many error)) = (length source < 2 ^ 32) × IsUtf8 source × ((span : Span)
    × (more : HasMore [] (chars source) most span) × Fills (written_tokens (chars source) more.front) old new
    × (error ≡ too_many_tokens_error (chars source) span))
ReturnsTokens source most old new (Err unread) = IsUnread source unread × IsLeft source old new unread
