-- What the error of a refusal shows is what its words are made of.
use Rattle.std.proofs.Common.{◌≡◌, ◌≢◌, ◌∙◌, ℕ, ◌-◌, ◌≤◌, true, List, [], ◌∷◌, ◌++◌, Option, Some, None, Ok, Err, length, take, drop, inl, inr, refl, sym, ap, ap₂, subst, arith, length-append, codes, ◌<◌}
use Rattle.std.specs.Prelude.{encode_utf8_all}
use Rattle.std.specs.Str.{chars, IsUtf8}
use Rattle.std.specs.Char.{IsScalar}
use Rattle.std.specs.Cmp.{first_so}
use Rattle.std.specs.Option.{SomeIff, IsSomeAnd, MatchOption}
use Rattle.std.proofs.lemmas.Str.{chars-encodes, scalars-chars, length-le-encodes}
use lib.Utf8.{scalar, scalars}
use Rattle.graphql_lexical.specs.Characters.{Text}
use Rattle.graphql_lexical.specs.Cutting.{Lexeme, BreaksAfter, here, later, Breaks}
use Rattle.graphql_lexical.specs.Reading.{Fails, number_ends, number_stops, zero_goes_on, string_fails, block_ends, block_stops, dots_end, dots_stop, unknown, StringFails, at_end, at_line_end, at_control, lone_backslash, wrong_escape, short_unicode, wrong_unicode, no_unicode}
use Rattle.graphql_lexical.specs.Display.{shown, quoted, error_text as lexical_text}
use Rattle.graphql_lexical.specs.Kinds.{LexicalError, UnknownCharacter, UnexpectedCharacter, UnterminatedString, UnknownCharacterInString, UnknownEscapeSequence, UnexpectedEndOfFile, InvalidNumber}
use Rattle.graphql_lexical.specs.Place.{Place, Span}
use Rattle.graphql_lexical.specs.declared.kind.Kind.{Kind}
use Rattle.graphql_lexical.specs.declared.kind.Kind.TheVariants.{EndOfFile, String, Int}
use Rattle.graphql_grammar.specs.Faults.{Begins, NamedError, TypeError, end as ends_here, own, other}
use Rattle.graphql_grammar.specs.Grammar.{IsLocated, IsScalarKind, IsValue}
use Rattle.juniper_tokens.specs.Errors as errors
use Rattle.juniper_tokens.specs.Errors.{error_text}
use Rattle.juniper_documents.specs.Literals as literals
use Rattle.juniper_documents.specs.Literals.{BeginsAlone}
use Rattle.juniper_parser.specs.Promise.{lexical_fault, lexical, grammatical, unexpected}
use Rattle.juniper_values.specs.Default.{default_reading, string_reading}
use Rattle.juniper_values.specs.Scalar.{Reading}
use Rattle.firthnapkin_results.specs.Answers.{scalars as all_scalars}
use Rattle.firthnapkin_results.specs.Errors.{written_error, lexical_reason, error_reason}
use Rattle.firthnapkin_results.specs.Messages.{ShowsText, shown_bytes, IsOfGrammar, AreWords, IsNoErrorOf, IsRefused}
use Rattle.firthnapkin_results.specs.Messages.{as_document, as_type, as_value}
use Rattle.firthnapkin_results.specs.Messages.{refused as is_refused, too_deep as is_deep, too_many as is_many}
use Rattle.firthnapkin_results.specs.Messages.{unknown as is_unknown, cycle as is_cycle}
use Rattle.firthnapkin_results.specs.Scalars.{scalar_reading, int_reading}
use Rattle.firthnapkin_results.specs.declared.error.Error.{Error}
use Rattle.firthnapkin_results.proofs.Shown.{TokenStands, token_in_source, escape_in_source, bytes_between, bytes_within, middle_scalars, middle_utf8, scalars_back}

-- ---- a scalar that is refused

err_of : errors.Error → Reading → errors.Error
err_of d (Ok c) = d
err_of d (Err e) = e

same_err : (e f : errors.Error) → ◌≡◌ {A = Reading} (Err e) (Err f) → e ≡ f
unfolding err_of
same_err e f h = ap (err_of e) h

by_unescape : (t : Text) (o : Option Text) (e : errors.Error) → string_reading t o ≡ Err e
    → e ≡ errors.UnexpectedToken (shown String t)
by_unescape t None e h = sym (same_err (errors.UnexpectedToken (shown String t)) e h)
by_unescape t (Some u) e h = absurd (cc h)

int_is_read : (r : Reading) (e : errors.Error) → int_reading r ≡ Err e → ⊥
int_is_read (Ok c) e h = cc h
int_is_read (Err f) e h = cc h

-- a String alone is refused, as an unexpected token
own_error : (k : Kind) (t : Text) (e : errors.Error) → IsScalarKind k → scalar_reading k t ≡ Err e
    → e ≡ errors.UnexpectedToken (shown k t)
own_error k t e (inl s) h =
    by_unescape t _ e (ap (λ k. scalar_reading k t) (sym s) ∙ h) ∙ ap (λ k. errors.UnexpectedToken (shown k t)) (sym s)
own_error k t e (inr (inl s)) h = let z = ap (λ k. scalar_reading k t) (sym s) ∙ h in absurd (cc z)
own_error k t e (inr (inr (inl s))) h = let z = ap (λ k. scalar_reading k t) (sym s) ∙ h in absurd (cc z)
own_error k t e (inr (inr (inr s))) h =
    absurd (int_is_read (default_reading Int t) e (ap (λ k. scalar_reading k t) (sym s) ∙ h))

scalar_no_end : (k : Kind) → IsScalarKind k → k ≢ EndOfFile
scalar_no_end k (inl s) e = let z = sym s ∙ e in absurd (cc z)
scalar_no_end k (inr (inl s)) e = let z = sym s ∙ e in absurd (cc z)
scalar_no_end k (inr (inr (inl s))) e = let z = sym s ∙ e in absurd (cc z)
scalar_no_end k (inr (inr (inr s))) e = let z = sym s ∙ e in absurd (cc z)

-- ---- what a refusal is

pub data IsTold (source : Text) : errors.Fault → Type 0 where
  by_lexical : {e : LexicalError} {at : Place} → Breaks source e at → IsTold source (lexical_fault e at)
  by_end : {span : Span} → IsTold source (record { error = errors.UnexpectedEndOfFile; span = span })
  by_token : (t : Lexeme) → TokenStands source t → t.kind ≢ EndOfFile
      → IsTold source (record { error = errors.UnexpectedToken (shown t.kind t.text); span = t.span })

named : (Begun : List Lexeme → Type 0) (source : Text) (before : List Lexeme) (t : Lexeme) (e : errors.Error)
    → TokenStands source t
    → NamedError Begun errors.UnexpectedEndOfFile unexpected all_scalars before t e
    → IsTold source (record { error = e; span = t.span })
named Begun source before t _ s (ends_here h) = by_end
named Begun source before t e s (own k r m) =
    subst (λ (d : errors.Error). IsTold source (record { error = d; span = t.span }))
    (sym (own_error t.kind t.text e k r)) (by_token t s (scalar_no_end t.kind k))
named Begun source before t _ s (other n m) = by_token t s n

typed : (source : Text) (t : Lexeme) (e : errors.Error) → TokenStands source t
    → TypeError errors.UnexpectedEndOfFile unexpected t e → IsTold source (record { error = e; span = t.span })
typed source t e s (inl (k, h)) =
    subst (λ (d : errors.Error). IsTold source (record { error = d; span = t.span })) (sym h) by_end
typed source t e s (inr (n, h)) =
    subst (λ (d : errors.Error). IsTold source (record { error = d; span = t.span })) (sym h) (by_token t s n)

pub refusal_told : (source : Text) (found : errors.Fault) → IsRefused source found → IsTold source found
refusal_told source _ (as_document (lexical b)) = by_lexical b
refusal_told source _ (as_document (grammatical {ts} {before} {t} {error} cut refused begins ends)) =
    named (Begins all_scalars) source before t error
    (token_in_source source ts before refused.0.after t cut refused.0.whole) refused.1
refusal_told source _ (as_value free (literals.lexical b)) = by_lexical b
refusal_told source _ (as_value free (literals.grammatical {ts} {before} {t} {error} cut refused name)) =
    named (BeginsAlone (IsLocated (IsValue all_scalars free))) source before t error
    (token_in_source source ts before refused.after t cut refused.whole) name
refusal_told source _ (as_type (literals.lexical b)) = by_lexical b
refusal_told source _ (as_type (literals.grammatical {ts} {before} {t} {error} cut refused name)) =
    typed source t error (token_in_source source ts before refused.after t cut refused.whole) name

-- ---- by the number of its kind

lexical_kind : (e : LexicalError) → (lexical_reason e).kind ≡ 2
lexical_kind (UnknownCharacter c) = refl
lexical_kind (UnexpectedCharacter c) = refl
lexical_kind UnterminatedString = refl
lexical_kind (UnknownCharacterInString c) = refl
lexical_kind (UnknownEscapeSequence t) = refl
lexical_kind UnexpectedEndOfFile = refl
lexical_kind InvalidNumber = refl

kind_of : (source : Text) (error : Error) (found : errors.Fault) → error ≡ written_error source found
    → error.kind ≡ (error_reason found.error).kind
kind_of source error found e = ap (λ (f : Error). f.kind) e

-- an unexpected token
pub record TellsToken (source : Text) (error : Error) (why : errors.Error) : Type 0 where
  pub token : Lexeme
  pub stands : TokenStands source token
  pub other : token.kind ≢ EndOfFile
  pub is : why ≡ errors.UnexpectedToken (shown token.kind token.text)
  pub error_is : error ≡ written_error source
      (record { error = errors.UnexpectedToken (shown token.kind token.text); span = token.span })

pub tells_token : (source : Text) (error : Error) (found : errors.Fault) → IsTold source found
    → error ≡ written_error source found → error.kind ≡ 0 → TellsToken source error found.error
tells_token source error _ (by_lexical {e} {at} b) f k =
    absurd (omega (arith, k, kind_of source error (lexical_fault e at) f, lexical_kind e))
tells_token source error _ (by_end {span}) f k =
    absurd (omega (arith, k, kind_of source error (record { error = errors.UnexpectedEndOfFile; span = span }) f))
tells_token source error _ (by_token t s n) f k = record { token = t; stands = s; other = n; is = refl; error_is = f }

-- a lexical error
pub record TellsLexical (source : Text) (error : Error) (why : errors.Error) : Type 0 where
  pub lexical_error : LexicalError
  pub at : Place
  pub breaks : Breaks source lexical_error at
  pub is : why ≡ errors.Lexical lexical_error
  pub error_is : error ≡ written_error source (lexical_fault lexical_error at)

pub tells_lexical : (source : Text) (error : Error) (found : errors.Fault) → IsTold source found
    → error ≡ written_error source found → error.kind ≡ 2 → TellsLexical source error found.error
tells_lexical source error _ (by_lexical {e} {at} b) f k =
    record { lexical_error = e; at = at; breaks = b; is = refl; error_is = f }
tells_lexical source error _ (by_end {span}) f k =
    absurd (omega (arith, k, kind_of source error (record { error = errors.UnexpectedEndOfFile; span = span }) f))
tells_lexical source error _ (by_token t s n) f k =
    absurd (omega (
      arith,
      k,
      kind_of source error
          (record { error = errors.UnexpectedToken (shown t.kind t.text); span = t.span }) f,
    ))

-- there is no other
pub tells_some : (source : Text) (error : Error) (found : errors.Fault) → IsTold source found
    → error ≡ written_error source found → error.kind ≤ 2
tells_some source error _ (by_lexical {e} {at} b) f =
    omega (arith, kind_of source error (lexical_fault e at) f, lexical_kind e)
tells_some source error _ (by_end {span}) f =
    omega (arith, kind_of source error (record { error = errors.UnexpectedEndOfFile; span = span }) f)
tells_some source error _ (by_token t s n) f =
    omega (
      arith,
      kind_of source error (record { error = errors.UnexpectedToken (shown t.kind t.text); span = t.span })
          f,
    )

-- ---- the text that it shows

-- the bytes that the error shows are those of this text
pub record Shows (source : List ℕ) (error : Error) (text : Text) : Type 0 where
  pub bytes : shown_bytes source error ≡ encode_utf8_all text
  pub is_text : ShowsText source error
  pub characters : scalars text ≡ true

shows : (source : List ℕ) → IsUtf8 source → (error : Error) (front middle rest : Text) (start end : ℕ)
    → error.text_start ≡ length (encode_utf8_all (take start (chars source)))
    → error.text_end ≡ length (encode_utf8_all (take end (chars source)))
    → chars source ≡ front ++ (middle ++ rest) → start ≡ length front → end ≡ length (front ++ middle)
    → Shows source error middle
shows source u error front middle rest start end f g e s t =
    let bytes = ap₂ (λ (a b : ℕ). take (b - a) (drop a source)) f g
    ∙ bytes_between source u front middle rest start end e s t in
    let within = bytes_within source u front middle rest start end e s t in
    record {
      bytes = bytes;
      is_text = (
        omega (arith, f, g, within.0),
        (omega (arith, g, within.1), subst IsUtf8 (sym bytes) (middle_utf8 source u front middle rest e)),
      );
      characters = middle_scalars source u front middle rest e;
    }

pub token_shown : (source : List ℕ) → IsUtf8 source → (error : Error) (why : errors.Error)
    → (h : TellsToken (chars source) error why) → Shows source error h.stands.1
token_shown source u error why h =
    shows source u error h.stands.0 h.stands.1 h.stands.2 _ _ (ap (λ (f : Error). f.text_start) h.error_is)
    (ap (λ (f : Error). f.text_end) h.error_is) h.stands.3 h.stands.4 h.stands.5

-- the text of a token
pub token_characters : (source : List ℕ) (error : Error) (written : List ℕ) (whole : Text) → Shows source error whole
    → written ≡ shown_bytes source error → chars written ≡ whole
token_characters source error written whole h e =
    ap chars (e ∙ h.bytes) ∙ chars-encodes whole h.characters

-- ---- an escape

pub escape_shown : (source : List ℕ) → IsUtf8 source → (error : Error) (escape : Text) (at : Place)
    → Breaks (chars source) (UnknownEscapeSequence escape) at
    → error ≡ written_error (chars source) (lexical_fault (UnknownEscapeSequence escape) at)
    → Shows source error escape
escape_shown source u error escape at b f =
    let (front, rest, e, s) = escape_in_source (chars source) escape at b in
    shows source u error front escape rest _ _ (ap (λ (f : Error). f.text_start) f)
    (ap (λ (f : Error). f.text_end) f) e (omega (arith, s)) (omega (arith, s, length-append front escape))

-- ---- the character of a lexical error

abbrev pub OfCharacter : LexicalError → (ℕ → Type 0) → Type 0
OfCharacter (UnknownCharacter c) P = P c
OfCharacter (UnexpectedCharacter c) P = P c
OfCharacter UnterminatedString P = Unit {0}
OfCharacter (UnknownCharacterInString c) P = P c
OfCharacter (UnknownEscapeSequence t) P = Unit {0}
OfCharacter UnexpectedEndOfFile P = Unit {0}
OfCharacter InvalidNumber P = Unit {0}

in_string : (before after : Text) (e : LexicalError) → StringFails before after e → scalars after ≡ true
    → OfCharacter e IsScalar
in_string _ _ _ at_end h = tt
in_string _ _ _ (at_line_end l) h = tt
in_string _ _ _ (at_control {c} {after} n) h = first_so (scalar c) (scalars after) h
in_string _ _ _ lone_backslash h = tt
in_string _ _ _ (wrong_escape n m) h = tt
in_string _ _ _ (short_unicode a l) h = tt
in_string _ _ _ (wrong_unicode a n m) h = tt
in_string _ _ _ (no_unicode n) h = tt

fails_scalar : (front after : Text) (e : LexicalError) → Fails front after e → scalars after ≡ true
    → OfCharacter e IsScalar
fails_scalar _ _ _ (number_ends n l m) h = tt
fails_scalar _ _ _ (number_stops {after = after} {c = c} n l m) h = first_so (scalar c) (scalars after) h
fails_scalar _ _ _ (zero_goes_on {after = after} {c = c} l z d) h = first_so (scalar c) (scalars after) h
fails_scalar _ _ e (string_fails {before = before} {after = after} l f) h = in_string before after e f h
fails_scalar _ _ _ (block_ends u) h = tt
fails_scalar _ _ _ (block_stops {after = after} {c = c} u n) h = first_so (scalar c) (scalars after) h
fails_scalar _ _ _ (dots_end d) h = tt
fails_scalar _ _ _ (dots_stop c dot dots after d e n) h = subst IsScalar (dot_is 46 dot [] [] e) refl
  where
    dot_is : (c d : ℕ) (s t : Text) → c ∷ s ≡ d ∷ t → c ≡ d
    dot_is c d s t e = ap head e
      where
        head : Text → ℕ
        head [] = 0
        head (c ∷ cs) = c
fails_scalar _ _ _ (unknown {c} {after} n) h = first_so (scalar c) (scalars after) h

breaks_scalar : (before left : Text) (e : LexicalError) (at : Place) → BreaksAfter before left e at
    → scalars left ≡ true
    → OfCharacter e IsScalar
breaks_scalar before left e at (here b) h =
    fails_scalar b.front b.after e b.fails
    (scalars_back b.front b.after (scalars_back b.ignored (b.front ++ b.after) (sym (ap scalars b.left_is) ∙ h)))
breaks_scalar before left e at (later {done = done} {after = after} s n b) h =
    breaks_scalar done after e at b
    (scalars_back s.whole after (scalars_back s.ignored (s.whole ++ after) (sym (ap scalars s.left_is) ∙ h)))

pub error_scalar : (source : List ℕ) → IsUtf8 source → (e : LexicalError) (at : Place) → Breaks (chars source) e at
    → OfCharacter e IsScalar
error_scalar source u e at b = breaks_scalar [] (chars source) e at b (scalars-chars source u)

-- ---- by the number of its detail

detail_1 : (e : LexicalError) → (lexical_reason e).detail ≡ 1 → e ≡ UnknownCharacter (lexical_reason e).character
detail_1 (UnknownCharacter c) h = refl
detail_1 (UnexpectedCharacter c) h = absurd (omega (arith, h))
detail_1 UnterminatedString h = absurd (omega (arith, h))
detail_1 (UnknownCharacterInString c) h = absurd (omega (arith, h))
detail_1 (UnknownEscapeSequence t) h = absurd (omega (arith, h))
detail_1 UnexpectedEndOfFile h = absurd (omega (arith, h))
detail_1 InvalidNumber h = absurd (omega (arith, h))

detail_2 : (e : LexicalError) → (lexical_reason e).detail ≡ 2 → e ≡ UnexpectedCharacter (lexical_reason e).character
detail_2 (UnknownCharacter c) h = absurd (omega (arith, h))
detail_2 (UnexpectedCharacter c) h = refl
detail_2 UnterminatedString h = absurd (omega (arith, h))
detail_2 (UnknownCharacterInString c) h = absurd (omega (arith, h))
detail_2 (UnknownEscapeSequence t) h = absurd (omega (arith, h))
detail_2 UnexpectedEndOfFile h = absurd (omega (arith, h))
detail_2 InvalidNumber h = absurd (omega (arith, h))

detail_4 : (e : LexicalError) → (lexical_reason e).detail ≡ 4
    → e ≡ UnknownCharacterInString (lexical_reason e).character
detail_4 (UnknownCharacter c) h = absurd (omega (arith, h))
detail_4 (UnexpectedCharacter c) h = absurd (omega (arith, h))
detail_4 UnterminatedString h = absurd (omega (arith, h))
detail_4 (UnknownCharacterInString c) h = refl
detail_4 (UnknownEscapeSequence t) h = absurd (omega (arith, h))
detail_4 UnexpectedEndOfFile h = absurd (omega (arith, h))
detail_4 InvalidNumber h = absurd (omega (arith, h))

detail_5 : (e : LexicalError) → (lexical_reason e).detail ≡ 5 → (t : Text) × (e ≡ UnknownEscapeSequence t)
detail_5 (UnknownCharacter c) h = absurd (omega (arith, h))
detail_5 (UnexpectedCharacter c) h = absurd (omega (arith, h))
detail_5 UnterminatedString h = absurd (omega (arith, h))
detail_5 (UnknownCharacterInString c) h = absurd (omega (arith, h))
detail_5 (UnknownEscapeSequence t) h = (t, refl)
detail_5 UnexpectedEndOfFile h = absurd (omega (arith, h))
detail_5 InvalidNumber h = absurd (omega (arith, h))

module _ (source : List ℕ) (u : IsUtf8 source) (error : Error) (e : LexicalError) (at : Place)
    (b : Breaks (chars source) e at) (f : error ≡ written_error (chars source) (lexical_fault e at)) where
  character_is : (lexical_reason e).character ≡ error.character
  character_is = sym (ap (λ (f : Error). f.character) f)

  detail_is : error.detail ≡ (lexical_reason e).detail
  detail_is = ap (λ (f : Error). f.detail) f

  scalar_as : (d : LexicalError) → e ≡ d → OfCharacter d IsScalar
  scalar_as d is = subst (λ (d : LexicalError). OfCharacter d IsScalar) is (error_scalar source u e at b)

  pub unknown_named : error.detail ≡ 1 → (e ≡ UnknownCharacter error.character) × IsScalar error.character
  unknown_named d =
      let is = detail_1 e (sym detail_is ∙ d) ∙ ap UnknownCharacter character_is in
      (is, scalar_as (UnknownCharacter error.character) is)

  pub unexpected_named : error.detail ≡ 2 → (e ≡ UnexpectedCharacter error.character) × IsScalar error.character
  unexpected_named d =
      let is = detail_2 e (sym detail_is ∙ d) ∙ ap UnexpectedCharacter character_is in
      (is, scalar_as (UnexpectedCharacter error.character) is)

  pub in_string_named : error.detail ≡ 4 → (e ≡ UnknownCharacterInString error.character) × IsScalar error.character
  in_string_named d =
      let is = detail_4 e (sym detail_is ∙ d) ∙ ap UnknownCharacterInString character_is in
      (is, scalar_as (UnknownCharacterInString error.character) is)

  pub escape_named : error.detail ≡ 5 → (t : Text) × (e ≡ UnknownEscapeSequence t) × Shows source error t
  escape_named d =
      let (t, is) = detail_5 e (sym detail_is ∙ d) in (
        t,
        is,
        escape_shown source u error t at (subst (λ (d : LexicalError). Breaks (chars source) d at) is b)
            (f ∙ ap (λ (d : LexicalError). written_error (chars source) (lexical_fault d at)) is),
      )

-- ---- options

pub some_if : (r : Option ℕ) (n : ℕ) → SomeIff r (IsScalar n) n → IsScalar n → r ≡ Some n
some_if None n h s = absurd (h s)
some_if (Some m) n h s = ap Some h.1

pub is_some_and : {A : Type 0} (r : Option A) (P Q : A → Type 0) → IsSomeAnd r P → ((y : A) → P y → Q y)
    → MatchOption r ⊥ Q
is_some_and None P Q h f = h
is_some_and (Some y) P Q h f = f y h

-- ---- words

some_front : (front back : Text) → 0 < length front → 0 < length (encode_utf8_all (front ++ back))
some_front front back l = omega (arith, l, length-le-encodes (front ++ back), length-append front back)

lexical_words : (e : LexicalError) → 0 < length (encode_utf8_all (lexical_text e))
lexical_words (UnknownCharacter c) = some_front (codes "Unknown character ") (quoted (c ∷ [])) (omega arith)
lexical_words (UnexpectedCharacter c) = some_front (codes "Unexpected character ") (quoted (c ∷ [])) (omega arith)
lexical_words UnterminatedString = some_front (codes "Unterminated string literal") [] (omega arith)
lexical_words (UnknownCharacterInString c) =
    some_front (codes "Unknown character ") (quoted (c ∷ []) ++ codes " in string literal") (omega arith)
lexical_words (UnknownEscapeSequence t) =
    some_front (codes "Unknown escape sequence ") (quoted t ++ codes " in string") (omega arith)
lexical_words UnexpectedEndOfFile = some_front (codes "Unexpected end of input") [] (omega arith)
lexical_words InvalidNumber = some_front (codes "Invalid number literal") [] (omega arith)

-- an error has some words
pub some_words : (e : errors.Error) → IsOfGrammar e → 0 < length (encode_utf8_all (error_text e))
some_words (errors.UnexpectedToken t) h = some_front (codes "Unexpected ") (quoted t) (omega arith)
some_words errors.UnexpectedEndOfFile h = some_front (codes "Unexpected end of input") [] (omega arith)
some_words (errors.Lexical e) h = lexical_words e
some_words (errors.ExpectedScalar t) h = absurd h

-- What the error of a refusal says are the words of an error of no limit and no spread.
pub are_words : (source : List ℕ) (error : Error) (e : errors.Error) → error.kind ≢ 3 → error.kind ≢ 4 → error.kind ≢ 6
    → error.kind ≢ 7
    → ((found : errors.Fault) → IsRefused (chars source) found → error ≡ written_error (chars source) found
    → e ≡ found.error)
    → AreWords source error (encode_utf8_all (error_text e))
are_words source error e deep many no_fragment in_itself exact _ (is_refused r f) =
    ap (λ (x : errors.Error). encode_utf8_all (error_text x)) (exact _ r f)
are_words source error e deep many no_fragment in_itself exact _ (is_deep f) =
    absurd (deep (ap (λ (x : Error). x.kind) f))
are_words source error e deep many no_fragment in_itself exact _ (is_many f) =
    absurd (many (ap (λ (x : Error). x.kind) f))
are_words source error e deep many no_fragment in_itself exact _ (is_unknown f) =
    absurd (no_fragment (ap (λ (x : Error). x.kind) f))
are_words source error e deep many no_fragment in_itself exact _ (is_cycle f) =
    absurd (in_itself (ap (λ (x : Error). x.kind) f))

-- It is no error of the source if no refusal gives it, and it is one of no limit and no spread.
pub is_no_error : (source : List ℕ) (error : Error) → error.kind ≢ 3 → error.kind ≢ 4 → error.kind ≢ 6
    → error.kind ≢ 7
    → ((found : errors.Fault) → IsRefused (chars source) found → error ≡ written_error (chars source) found → ⊥)
    → IsNoErrorOf source error
is_no_error source error deep many no_fragment in_itself none _ (is_refused r f) = none _ r f
is_no_error source error deep many no_fragment in_itself none _ (is_deep f) =
    deep (ap (λ (x : Error). x.kind) f)
is_no_error source error deep many no_fragment in_itself none _ (is_many f) =
    many (ap (λ (x : Error). x.kind) f)
is_no_error source error deep many no_fragment in_itself none _ (is_unknown f) =
    no_fragment (ap (λ (x : Error). x.kind) f)
is_no_error source error deep many no_fragment in_itself none _ (is_cycle f) =
    in_itself (ap (λ (x : Error). x.kind) f)
