-- Tokens of a source, as C gets them.
use Rattle.std.specs.Prelude.{◌≡◌, ◌≤◌, ◌⊎◌, ℕ, ◌+◌, ◌-◌, ◌*◌, List, [], length, map, take, drop, IsUtf8, chars, encode_utf8_all}
use Rattle.graphql_lexical.specs.Place.{Place, Span}
use Rattle.graphql_lexical.specs.Kinds.{LexicalError, spelling}
use Rattle.graphql_lexical.specs.declared.kind.Kind.{Kind}
use Rattle.graphql_lexical.specs.declared.kind.Kind.TheVariants as kind
use Rattle.graphql_lexical.specs.Tokens.{quotes}
use Rattle.graphql_lexical.specs.Cutting.{Lexeme, Cut, Leads, BreaksThere}
use Rattle.firthnapkin_results.specs.Positions.{written_position}
use Rattle.firthnapkin_results.specs.declared.token.Token.{Token}

-- The number of a kind: the end is the first, so that a new kind of token renumbers none.
abbrev pub kind_number : Kind → ℕ
kind_number kind.EndOfFile = 0
kind_number kind.Name = 1
kind_number kind.String = 2
kind_number kind.BlockString = 3
kind_number kind.Float = 4
kind_number kind.Int = 5
kind_number kind.ExclamationMark = 6
kind_number kind.Dollar = 7
kind_number kind.ParenOpen = 8
kind_number kind.ParenClose = 9
kind_number kind.BracketOpen = 10
kind_number kind.BracketClose = 11
kind_number kind.CurlyOpen = 12
kind_number kind.CurlyClose = 13
kind_number kind.Ellipsis = 14
kind_number kind.Colon = 15
kind_number kind.Equals = 16
kind_number kind.At = 17
kind_number kind.Pipe = 18

-- the number of quotes on each side of a token's text
abbrev pub quote_count : Kind → ℕ
quote_count kind = length (quotes (spelling kind))

abbrev pub token_at : List ℕ → Kind → Span → Token
token_at source kind span = record {
  kind = kind_number kind;
  quotes = quote_count kind;
  start = written_position source span.start;
  end = written_position source span.end;
}

abbrev pub written_token : List ℕ → Lexeme → Token
written_token source x = token_at source x.kind x.span

abbrev pub written_tokens : List ℕ → List Lexeme → List Token
written_tokens source xs = map (written_token source) xs

-- ---- texts

-- the bytes of a source between the positions of a token, without its quotes
abbrev pub text_bytes : List ℕ → Token → List ℕ
text_bytes source token =
    take ((token.end.byte - token.start.byte) - 2 * token.quotes) (drop (token.start.byte + token.quotes) source)

-- a token is reported with the bytes of its text
abbrev pub TellsText : List ℕ → Lexeme → Type 0
TellsText source x = text_bytes source (written_token (chars source) x) ≡ encode_utf8_all x.text

-- ---- sources

-- The source is a text that is cut into these tokens.
pub record HasTokens (source : List ℕ) (lexemes : List Lexeme) : Type 0 where
  pub utf8 : IsUtf8 source
  pub cut : Cut (chars source) lexemes

-- The source is a text that begins with these tokens, none of them the end, and after them is this lexical error.
pub record HasErrorAfter (source : List ℕ) (before : List Lexeme) (error : LexicalError) (at : Place) : Type 0 where
  pub utf8 : IsUtf8 source
  pub done : List ℕ
  pub after : List ℕ
  pub leads : Leads [] (chars source) before done after
  pub breaks : BreaksThere done after error at

-- the statuses of `firthnapkin_tokens`
abbrev pub IsTokensStatus : ℕ → Type 0
IsTokensStatus n = (n ≤ 3) ⊎ ((5 ≤ n) × (n ≤ 7))
