-- Tokens of the code, as the definitions see them.
use Rattle.std.specs.Prelude.{ℕ, List, [], Bool, ◌&&◌, nat_eq}
use Rattle.std.specs.Option.{unwrap_or}
use Rattle.std.specs.Borrow.{Bor}
use Rattle.std.specs.Cmp.Lexicographic.{pointwise}
use Rattle.std.specs.Str.{chars}
use Rattle.graphql_lexical.specs.declared.kind.Kind.{Kind}
use Rattle.graphql_lexical.specs.declared.kind.Kind.TheVariants as kinds
use Rattle.graphql_lexical.specs.Kinds.{same_kind, spelling, fixed_text}
use Rattle.graphql_lexical.specs.Cutting.{Lexeme}
use Rattle.graphql_lexical.specs.Display.{shown}
use Rattle.juniper_tokens.specs.declared.token.ScalarToken.{ScalarToken}
use Rattle.juniper_tokens.specs.declared.token.ScalarToken.TheVariants as scalar
use Rattle.juniper_tokens.specs.declared.token.Token.{Token}
use Rattle.juniper_tokens.specs.declared.token.Token.TheVariants as token
use Rattle.juniper_tokens.specs.declared.span.Spanning.{Spanning}
use Rattle.juniper_tokens.specs.Spans.{view_span}

-- the text of a token of that kind, where the kind leaves it open this text
abbrev pub kind_text : Kind → List ℕ → List ℕ
kind_text kind text = unwrap_or (fixed_text (spelling kind)) text

-- The kind and the text, of a String and of a block string what stands between its quotes.
abbrev pub scalar_parts : ScalarToken → Kind × List ℕ
scalar_parts (scalar.String s) = (kinds.String, chars s.now)
scalar_parts (scalar.BlockString s) = (kinds.BlockString, chars s.now)
scalar_parts (scalar.Float s) = (kinds.Float, chars s.now)
scalar_parts (scalar.Int s) = (kinds.Int, chars s.now)

-- a kind that leaves no text open, and its text
abbrev fixed : Kind → Kind × List ℕ
fixed kind = (kind, kind_text kind [])

abbrev pub token_parts : Token → Kind × List ℕ
token_parts (token.Name s) = (kinds.Name, chars s.now)
token_parts (token.Scalar s) = scalar_parts s
token_parts token.ExclamationMark = fixed kinds.ExclamationMark
token_parts token.Dollar = fixed kinds.Dollar
token_parts token.ParenOpen = fixed kinds.ParenOpen
token_parts token.ParenClose = fixed kinds.ParenClose
token_parts token.BracketOpen = fixed kinds.BracketOpen
token_parts token.BracketClose = fixed kinds.BracketClose
token_parts token.CurlyOpen = fixed kinds.CurlyOpen
token_parts token.CurlyClose = fixed kinds.CurlyClose
token_parts token.Ellipsis = fixed kinds.Ellipsis
token_parts token.Colon = fixed kinds.Colon
token_parts token.Equals = fixed kinds.Equals
token_parts token.At = fixed kinds.At
token_parts token.Pipe = fixed kinds.Pipe
token_parts token.EndOfFile = fixed kinds.EndOfFile

abbrev pub scalar_kind : ScalarToken → Kind
scalar_kind t = (scalar_parts t).0

abbrev pub scalar_text : ScalarToken → List ℕ
scalar_text t = (scalar_parts t).1

abbrev pub token_kind : Token → Kind
token_kind t = (token_parts t).0

abbrev pub token_text : Token → List ℕ
token_text t = (token_parts t).1

-- What is shown of a token.
abbrev pub shown_token : Token → List ℕ
shown_token t = shown (token_kind t) (token_text t)

abbrev pub shown_scalar : ScalarToken → List ℕ
shown_scalar t = shown (scalar_kind t) (scalar_text t)

-- a token with its place
abbrev pub view_token : Spanning Token → Lexeme
view_token t = record { kind = token_kind t.item; text = token_text t.item; span = view_span t.span }

-- a Name with its span, whose characters are found so
abbrev pub name_of : {W : Type 0} → (W → List ℕ) → Spanning W → Lexeme
name_of characters s = record { kind = kinds.Name; text = characters s.item; span = view_span s.span }

abbrev pub view_name : Spanning (Bor (List ℕ)) → Lexeme
view_name = name_of (λ s. chars s.now)

abbrev pub same_text : List ℕ → List ℕ → Bool
same_text = pointwise nat_eq

-- equal in kind and text
abbrev pub same_token : Token → Token → Bool
same_token a b = same_kind (token_kind a) (token_kind b) && same_text (token_text a) (token_text b)

abbrev pub same_scalar : ScalarToken → ScalarToken → Bool
same_scalar a b = same_kind (scalar_kind a) (scalar_kind b) && same_text (scalar_text a) (scalar_text b)
