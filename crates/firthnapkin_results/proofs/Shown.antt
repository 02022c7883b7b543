-- Where the text of an escape that is none stands in a source, and the bytes of a slice of one.
use Rattle.std.proofs.Common.{◌≡◌, ◌∙◌, ◌≢◌, ◌⊎◌, ◌&&◌, true, ℕ, suc, ◌-◌, ◌≤◌, List, [], ◌∷◌, ◌++◌, length, take, drop, inl, inr, refl, sym, ap, ap₂, subst, arith, codes, length-append, append_assoc}
use Rattle.std.specs.Prelude.{encode_utf8_all}
use Rattle.std.specs.Str.{chars, IsUtf8}
use Rattle.std.specs.Cmp.{first_so, second_so}
use Rattle.std.proofs.lemmas.Str.{encodes-append, encodes-chars, scalars-chars}
use lib.Utf8.{scalar, scalars}
use Rattle.std.proofs.Math.Seq.{take-append_seam, drop-append_seam}
use Rattle.graphql_lexical.specs.Characters.{Text}
use Rattle.graphql_lexical.specs.Cutting.{Lexeme, Stands, CutAfter, last, token, Cut, BreaksAfter, here, later, Breaks}
use Rattle.graphql_lexical.specs.Kinds.{UnknownEscapeSequence}
use Rattle.graphql_lexical.specs.declared.kind.Kind.{Kind}
use Rattle.graphql_lexical.specs.declared.kind.Kind.TheVariants.{EndOfFile}
use Rattle.graphql_lexical.specs.Place as places
use Rattle.graphql_lexical.specs.Place.{Place}
use Rattle.graphql_lexical.specs.Reading.{Reads, Fails, string_fails, StringFails, wrong_escape, wrong_unicode, no_unicode}
use Rattle.graphql_lexical.specs.Tokens.{Spells}
use Rattle.graphql_lexical.proofs.Public.{done_whole}

-- Before the error stands a backslash, with which the escape begins.
abbrev pub EndsInEscape : Text → Text → Text → Type 0
EndsInEscape front after escape =
    (head rest : Text) × (front ≡ head ++ codes "\\") × (codes "\\" ++ after ≡ escape ++ rest)

in_string : (units before after escape : Text) → StringFails before after (UnknownEscapeSequence escape)
    → EndsInEscape (codes "\"" ++ (units ++ before)) after escape
in_string units _ _ _ (wrong_escape {c} {after} h k) = (34 ∷ units, after, refl, refl)
in_string units _ _ _ (wrong_unicode {digits} {after} h k n) = (34 ∷ units, after, refl, refl)
in_string units _ _ _ (no_unicode {c} {after} h) = (34 ∷ units, after, refl, refl)

ends_in_escape : (front after escape : Text) → Fails front after (UnknownEscapeSequence escape)
    → EndsInEscape front after escape
ends_in_escape _ _ escape (string_fails {units} {before} {after} l h) = in_string units before after escape h

-- The escape stands in the source from the character before the error's position on.
abbrev pub EscapeStands : Text → Text → Place → Type 0
EscapeStands source escape at = (front rest : Text) × (source ≡ front ++ (escape ++ rest))
    × (at.index ≡ suc (length front))

escape_here : (before ignored front after source escape : Text) (at : Place) → EndsInEscape front after escape
    → source ≡ before ++ (ignored ++ (front ++ after)) → at ≡ places.position_after (before ++ (ignored ++ front))
    → EscapeStands source escape at
escape_here before ignored front after source escape at (head, rest, e, f) s p =
    let start = before ++ (ignored ++ head) in
    let all : before ++ (ignored ++ front) ≡ start ++ codes "\\" =
    ap (λ (t : Text). before ++ (ignored ++ t)) e
    ∙ (ap (λ (t : Text). before ++ t) (sym (append_assoc ignored head (codes "\\")))
    ∙ sym (append_assoc before (ignored ++ head) (codes "\\"))) in
    let whole : before ++ (ignored ++ (front ++ after)) ≡ (before ++ (ignored ++ front)) ++ after =
    ap (λ (t : Text). before ++ t) (sym (append_assoc ignored front after))
    ∙ sym (append_assoc before (ignored ++ front) after) in (
      start,
      rest,
      s ∙ (whole ∙ (ap (λ (t : Text). t ++ after) all
          ∙ (append_assoc start (codes "\\") after ∙ ap (λ (t : Text). start ++ t) f))),
      ap (λ (q : Place). q.index) p ∙ (ap length all ∙ (length-append start (codes "\\") ∙ omega arith)),
    )

escape_stands : (before left escape : Text) (at : Place) → BreaksAfter before left (UnknownEscapeSequence escape) at
    → EscapeStands (before ++ left) escape at
escape_stands before left escape at (here b) =
    escape_here before b.ignored b.front b.after (before ++ left) escape at
    (ends_in_escape b.front b.after escape b.fails)
    (ap (λ (t : Text). before ++ t) b.left_is) b.at_is
escape_stands before left escape at (later {done = done} {after = after} {x = x} s n b) =
    subst (λ (t : Text). EscapeStands t escape at) (sym (done_whole before left x done after s))
    (escape_stands done after escape at b)

pub escape_in_source : (source escape : Text) (at : Place) → Breaks source (UnknownEscapeSequence escape) at
    → EscapeStands source escape at
escape_in_source source escape at b = escape_stands [] source escape at b

-- ---- tokens

-- The token stands in the source as it is spelled.
abbrev pub TokenStands : Text → Lexeme → Type 0
TokenStands source t =
    (front whole rest : Text) × (source ≡ front ++ (whole ++ rest)) × (t.span.start.index ≡ length front)
    × (t.span.end.index ≡ length (front ++ whole)) × (t.kind ≢ EndOfFile → Spells whole t.kind t.text)

spelled : (whole after : Text) (kind : Kind) (text : Text) → Reads whole after kind text → kind ≢ EndOfFile
    → Spells whole kind text
spelled whole after kind text r n = by_case r.spells
  where
    by_case : Spells whole kind text ⊎ ((whole ++ after ≡ []) × (kind ≡ EndOfFile) × (text ≡ []))
        → Spells whole kind text
    by_case (inl h) = h
    by_case (inr h) = absurd (n h.1)

token_here : (before left : Text) (t : Lexeme) (done after : Text) → Stands before left t done after
    → TokenStands (before ++ left) t
token_here before left t done after s = (
  before ++ s.ignored,
  s.whole,
  after,
  ap (λ (u : Text). before ++ u) s.left_is ∙ sym (append_assoc before s.ignored (s.whole ++ after)),
  ap (λ (p : Place). p.index) s.start,
  ap (λ (p : Place). p.index) s.end ∙ ap length (s.done_is ∙ sym (append_assoc before s.ignored s.whole)),
  spelled s.whole after t.kind t.text s.reads,
)

head_of : Lexeme → List Lexeme → Lexeme
head_of u [] = u
head_of u (t ∷ ts) = t

tail_of : List Lexeme → List Lexeme
tail_of [] = []
tail_of (t ∷ ts) = ts

same_head : (x t : Lexeme) (xs ts : List Lexeme) → x ∷ xs ≡ t ∷ ts → x ≡ t
unfolding head_of
same_head x t xs ts e = ap (head_of x) e

same_tail : (x t : Lexeme) (xs ts : List Lexeme) → x ∷ xs ≡ t ∷ ts → xs ≡ ts
unfolding tail_of
same_tail x t xs ts e = ap tail_of e

token_among : (before left : Text) (ts front after : List Lexeme) (t : Lexeme) → CutAfter before left ts
    → ts ≡ front ++ t ∷ after → TokenStands (before ++ left) t
token_among before left _ [] after t (last {done = done} {after = rest} {x = x} s n) e =
    subst (TokenStands (before ++ left)) (same_head x t [] after e) (token_here before left x done rest s)
token_among before left _ [] after t (token {done = done} {after = rest} {x = x} {xs = xs} s n c) e =
    subst (TokenStands (before ++ left)) (same_head x t xs after e) (token_here before left x done rest s)
token_among before left _ (y ∷ ys) after t (last {x = x} s n) e =
    absurd (omega (arith, ap length (same_tail x y [] (ys ++ t ∷ after) e), length-append ys (t ∷ after)))
token_among before left _ (y ∷ ys) after t (token {done = done} {after = rest} {x = x} {xs = xs} s n c) e =
    subst (λ (u : Text). TokenStands u t) (sym (done_whole before left x done rest s))
    (token_among done rest xs ys after t c (same_tail x y xs (ys ++ t ∷ after) e))

pub token_in_source : (source : Text) (ts before after : List Lexeme) (t : Lexeme) → Cut source ts
    → ts ≡ before ++ t ∷ after
    → TokenStands source t
token_in_source source ts before after t c e = token_among [] source ts before after t c e

-- ---- bytes

-- the bytes of a slice of a text
pub slice_bytes : (bytes : List ℕ) → IsUtf8 bytes → (front middle rest : Text) → chars bytes ≡ front ++ (middle ++ rest)
    → take (length (encode_utf8_all middle)) (drop (length (encode_utf8_all front)) bytes) ≡ encode_utf8_all middle
slice_bytes bytes u front middle rest e =
    let whole : bytes ≡ encode_utf8_all front ++ (encode_utf8_all middle ++ encode_utf8_all rest) =
    sym (encodes-chars bytes u) ∙ (ap encode_utf8_all e ∙ (encodes-append front (middle ++ rest)
    ∙ ap (λ (t : List ℕ). encode_utf8_all front ++ t) (encodes-append middle rest))) in
    ap (λ (t : List ℕ). take (length (encode_utf8_all middle)) (drop (length (encode_utf8_all front)) t)) whole
    ∙ (ap (take (length (encode_utf8_all middle))) (drop-append_seam (encode_utf8_all front) _)
    ∙ take-append_seam (encode_utf8_all middle) (encode_utf8_all rest))

-- how many bytes there are before a character
pub byte_after : (source front rest : Text) → source ≡ front ++ rest
    → length (encode_utf8_all (take (length front) source)) ≡ length (encode_utf8_all front)
byte_after source front rest e =
    ap (λ (t : Text). length (encode_utf8_all t)) (ap (take (length front)) e ∙ take-append_seam front rest)

pub bytes_between : (bytes : List ℕ) → IsUtf8 bytes → (front middle rest : Text) (start end : ℕ)
    → chars bytes ≡ front ++ (middle ++ rest) → start ≡ length front → end ≡ length (front ++ middle)
    → take (length (encode_utf8_all (take end (chars bytes))) - length (encode_utf8_all (take start (chars bytes))))
    (drop (length (encode_utf8_all (take start (chars bytes)))) bytes)
    ≡ encode_utf8_all middle
bytes_between bytes u front middle rest start end e s f =
    let first = ap (λ n. length (encode_utf8_all (take n (chars bytes)))) s
    ∙ byte_after (chars bytes) front (middle ++ rest) e in
    let last = ap (λ n. length (encode_utf8_all (take n (chars bytes)))) f
    ∙ byte_after (chars bytes) (front ++ middle) rest (e ∙ sym (append_assoc front middle rest)) in
    let both = ap length (encodes-append front middle)
    ∙ length-append (encode_utf8_all front) (encode_utf8_all middle) in
    let size : length (encode_utf8_all (take end (chars bytes))) - length (encode_utf8_all (take start (chars bytes)))
    ≡ length (encode_utf8_all middle) = omega (arith, first, last, both) in
    ap₂ (λ n m. take n (drop m bytes)) size first ∙ slice_bytes bytes u front middle rest e

-- ---- what an error shows is a text

pub scalars_back : (s t : Text) → scalars (s ++ t) ≡ true → scalars t ≡ true
scalars_back [] t e = e
scalars_back (c ∷ s) t e = scalars_back s t (second_so (scalar c) (scalars (s ++ t)) e)

scalars_front : (s t : Text) → scalars (s ++ t) ≡ true → scalars s ≡ true
scalars_front [] t e = refl
scalars_front (c ∷ s) t e =
    ap₂ (λ a b. a && b) (first_so (scalar c) (scalars (s ++ t)) e)
    (scalars_front s t (second_so (scalar c) (scalars (s ++ t)) e))

pub middle_scalars : (bytes : List ℕ) → IsUtf8 bytes → (front middle rest : Text)
    → chars bytes ≡ front ++ (middle ++ rest)
    → scalars middle ≡ true
middle_scalars bytes u front middle rest e =
    scalars_front middle rest (scalars_back front (middle ++ rest) (sym (ap scalars e) ∙ scalars-chars bytes u))

pub middle_utf8 : (bytes : List ℕ) → IsUtf8 bytes → (front middle rest : Text) → chars bytes ≡ front ++ (middle ++ rest)
    → IsUtf8 (encode_utf8_all middle)
middle_utf8 bytes u front middle rest e = (middle, (middle_scalars bytes u front middle rest e, refl))

-- so many bytes there are up to the end of a slice
pub bytes_within : (bytes : List ℕ) → IsUtf8 bytes → (front middle rest : Text) (start end : ℕ)
    → chars bytes ≡ front ++ (middle ++ rest) → start ≡ length front → end ≡ length (front ++ middle)
    → (length (encode_utf8_all (take start (chars bytes))) ≤ length (encode_utf8_all (take end (chars bytes))))
    × (length (encode_utf8_all (take end (chars bytes))) ≤ length bytes)
bytes_within bytes u front middle rest start end e s f =
    let first = ap (λ n. length (encode_utf8_all (take n (chars bytes)))) s
    ∙ byte_after (chars bytes) front (middle ++ rest) e in
    let last = ap (λ n. length (encode_utf8_all (take n (chars bytes)))) f
    ∙ byte_after (chars bytes) (front ++ middle) rest (e ∙ sym (append_assoc front middle rest)) in
    let both = ap length (encodes-append front middle)
    ∙ length-append (encode_utf8_all front) (encode_utf8_all middle) in
    let whole = ap length (sym (encodes-chars bytes u) ∙ ap encode_utf8_all e) in
    let parts = ap length (encodes-append front (middle ++ rest))
    ∙ length-append (encode_utf8_all front) (encode_utf8_all (middle ++ rest)) in
    let after = ap length (encodes-append middle rest)
    ∙ length-append (encode_utf8_all middle) (encode_utf8_all rest) in
    (omega (arith, first, last, both), omega (arith, last, both, whole, parts, after))
