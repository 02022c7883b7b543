-- A device: what a cursor returns where the steps of a production are read.
use Rattle.std.specs.Prelude.{◌≡◌, List, codes, map, drop, Bool, true, Option, Some, None, Result, Ok, Err, if◌then◌else◌}
use Rattle.std.specs.Global.{Vec}
use Rattle.graphql_lexical.specs.Place.{Place, Span}
use Rattle.graphql_lexical.specs.declared.kind.Kind.{Kind}
use Rattle.graphql_lexical.specs.Kinds.{same_kind}
use Rattle.graphql_lexical.specs.Cutting.{Lexeme}
use Rattle.graphql_grammar.specs.Tokens.{Text, Located, Word, span_of}
use Rattle.graphql_grammar.specs.Tree.{Scalars, Value, Scalar, TypeRef, Selection}
use Rattle.graphql_grammar.specs.device.Reading.{Test, word, passes, many, repeated, scalar_token, fully, front, Symbol, a_value, a_type, a_selection, Steps, gives, wants, takes, sees, part, symbol, spanned, scalar, closed, each}
use Rattle.graphql_grammar.specs.device.Productions.{symbol_at, reads, type_condition, inline}
use Rattle.juniper_tokens.specs.Errors.{Error, unexpected}
use Rattle.juniper_tokens.specs.declared.error.ParseFailure.{ParseFailure}
use Rattle.juniper_tokens.specs.declared.token.ScalarToken.{ScalarToken}
use Rattle.juniper_tokens.specs.Tokens.{scalar_kind, scalar_text}
use Rattle.juniper_tokens.specs.Cursor.{Read, Fails, ◌>>=◌, first_of, kind_at, next_at, next_if}
use Rattle.juniper_tokens.specs.Taking.{Taking, left, last_end}
use Rattle.juniper_parser.specs.device.Seen.{seen}

-- a scalar token by the scalar type's reading; another token is reported as unexpected
abbrev pub literal_here : {C : Type 0} → (Kind → Text → Result C Error) → Kind → Text → Result C Error
literal_here read kind text = if scalar_token kind text then read kind text else unexpected kind text

-- The lexeme is this scalar token.
pub record IsScalarAt (t : Lexeme) (token : ScalarToken) : Type 0 where
  pub kind : t.kind ≡ scalar_kind token
  pub text : t.text ≡ scalar_text token
  pub passes : scalar_token t.kind t.text ≡ true

abbrev pub read_here : {C : Type 0} → Result C Error → Span → List Lexeme → Read (Located (Value C))
read_here (Ok c) p ts = Ok (record { item = Scalar c; span = p }, ts)
read_here (Err e) p ts = Err (record { error = e; span = p }, ts)

-- The next token was taken.
abbrev pub GivesNext : Result (Unit {0}) ParseFailure → List Lexeme → List Lexeme → Read Lexeme → Type 0
GivesNext (Ok _) old new r = r ≡ Ok (first_of old, new)
GivesNext (Err e) old new r = Fails e new r

-- Items were read up to a closing token, which was taken last.
abbrev pub GivesClosed : {X A : Type 0} → (X → A) → Result (Vec X) ParseFailure → Taking → Read (List A × Span) → Type 0
GivesClosed view (Ok v) new r = (q : Span) × (q.end ≡ last_end new) × (r ≡ Ok ((map view v.items, q), left new))
GivesClosed view (Err e) new r = Fails e (left new) r

-- a token of the kind k is taken, and its span returned
abbrev pub closing_at : Kind → List Lexeme → Option Span × List Lexeme
closing_at k ts = if same_kind (kind_at ts) k then (Some (first_of ts).span, drop 1 ts) else (None, ts)

-- items, and the span of their closing token
abbrev pub closed_by : {A : Type 0} → Read (List A × Lexeme) → Read (List A × Span)
closed_by r = r >>= λ x. Ok ((x.0.0, x.0.1.span), x.1)

-- no type has a scalar token
abbrev pub no_scalars : Scalars (Unit {0}) Error
no_scalars = record { read = unexpected; of_bool = λ b. tt }

unfoldable pub type_read : List Lexeme → Read (Located TypeRef)
type_read ts = seen (fully (λ n. symbol_at no_scalars n (Located TypeRef) a_type) ts)

module _ {C : Type 0} (S : Scalars C Error) where
  unfoldable pub value_read : Bool → List Lexeme → Read (Located (Value C))
  value_read free ts = seen (fully (λ n. symbol_at S n (Located (Value C)) (a_value free)) ts)

  unfoldable pub selection_read : List Lexeme → Read (Selection C)
  selection_read ts = seen (fully (λ n. symbol_at S n (Selection C) a_selection) ts)

  abbrev pub symbol_read : {A : Type 0} → Symbol C A → List Lexeme → Read A
  symbol_read (a_value free) ts = value_read free ts
  symbol_read a_type ts = type_read ts
  symbol_read a_selection ts = selection_read ts

  unfoldable pub scalar_read : List Lexeme → Read (Located (Value C))
  scalar_read ts = next_at ts >>= λ t. read_here (literal_here S.read t.0.kind t.0.text) t.0.span t.1

  unfoldable pub closed_read : {A : Type 0} → Test → Steps C A → List Lexeme → Read (List A × Span)
  closed_read close p ts = closed_by (seen (fully (λ n. many close (reads S n p) n) ts))

  unfoldable pub each_read : {A : Type 0} → Test → Steps C A → List Lexeme → Read (List A)
  each_read test p ts = seen (fully (λ n. repeated test (reads S n p) n) ts)

  abbrev pub cursor : {A : Type 0} → Steps C A → List Lexeme → Read A
  cursor (gives a) ts = Ok (a, ts)
  cursor (wants test k) ts = next_if (passes test (first_of ts)) ts >>= λ t. cursor (k t.0) t.1
  cursor (takes test k p) ts = if passes test (first_of ts) then (next_at ts >>= λ t. cursor (k t.0) t.1) else cursor p ts
  cursor (sees test p q) ts = if passes test (first_of ts) then cursor p ts else cursor q ts
  cursor (part p k) ts = cursor p ts >>= λ x. cursor (k x.0) x.1
  cursor (symbol r) ts = symbol_read r ts
  cursor (spanned p) ts = cursor p ts >>= λ x. Ok (x.0 (span_of (front ts x.1)), x.1)
  cursor (scalar k) ts = scalar_read ts >>= λ v. cursor (k v.0) v.1
  cursor (closed close p k) ts = closed_read close p ts >>= λ r. cursor (k r.0.0 r.0.1) r.1
  cursor (each test p k) ts = each_read test p ts >>= λ r. cursor (k r.0) r.1

-- ("on" Name)?
abbrev pub optional_condition : {C : Type 0} → Steps C (Option Word)
optional_condition = sees (word (codes "on")) (part type_condition (λ n. gives (Some n))) (gives None)

-- ("on" Name)? Directive* SelectionSet, after three dots
abbrev pub any_inline : {C : Type 0} → Steps C (Span → Selection C)
any_inline = part optional_condition (λ n. inline n)

-- what lacks its span alone, with the span from one place to another
abbrev pub at_span : {A : Type 0} → Place → Place → Read (Span → A) → Read A
at_span start end r = r >>= λ x. Ok (x.0 (record { start = start; end = end }), x.1)
