-- The bytes of a token's text are found between its positions.
use Rattle.std.proofs.Common.{◌≡◌, ◌∙◌, ℕ, ◌+◌, ◌-◌, ◌*◌, ◌≤◌, List, [], ◌∷◌, ◌++◌, length, take, drop, refl, sym, ap, ap₂, subst, arith, append_assoc, append-nil, length-append, length-drop, take-append-drop, take-add}
use Rattle.std.specs.Prelude.{encode_utf8_all}
use Rattle.std.specs.Str.{chars, IsUtf8}
use Rattle.std.proofs.lemmas.Str.{encodes-append, encodes-chars}
use Rattle.std.proofs.Math.Seq.{take-append_seam, drop-append_seam, drop-append-add}
use lib.Utf8.{encode}
use Rattle.graphql_lexical.specs.Place.{Place}
use Rattle.graphql_lexical.specs.Kinds.{Spelling, Names, Strings, BlockStrings, Floats, Ints, Fixed, NoText, spelling}
use Rattle.graphql_lexical.specs.Tokens.{mark, quotes, around}
use Rattle.graphql_lexical.specs.Cutting.{Lexeme, Stands}
use Rattle.graphql_lexical.specs.device.Indexed.{StandsAt}
use Rattle.graphql_lexical.proofs.Public.{front_read, place_index, stands_from_text}
use Rattle.firthnapkin_results.specs.Positions.{bytes_before}
use Rattle.firthnapkin_results.specs.Tokens.{TellsText}

one_quote : encode_utf8_all (34 ∷ []) ≡ 34 ∷ []
unfolding encode
one_quote = refl

three_quotes : encode_utf8_all mark ≡ mark
unfolding encode
three_quotes = refl

-- a text between marks that are their own bytes
between_marks : (marks text : List ℕ) → encode_utf8_all marks ≡ marks
    → encode_utf8_all (marks ++ (text ++ marks)) ≡ marks ++ (encode_utf8_all text ++ marks)
between_marks marks text e =
    encodes-append marks (text ++ marks)
    ∙ ap₂ (λ a b. a ++ b) e (encodes-append text marks ∙ ap (λ b. encode_utf8_all text ++ b) e)

-- the bytes of what is written of a token
written_bytes : (s : Spelling) (text : List ℕ)
    → encode_utf8_all (around (quotes s) text) ≡ quotes s ++ (encode_utf8_all text ++ quotes s)
written_bytes Names text = sym (append-nil (encode_utf8_all text))
written_bytes Strings text = between_marks (34 ∷ []) text one_quote
written_bytes BlockStrings text = between_marks mark text three_quotes
written_bytes Floats text = sym (append-nil (encode_utf8_all text))
written_bytes Ints text = sym (append-nil (encode_utf8_all text))
written_bytes (Fixed fixed) text = sym (append-nil (encode_utf8_all text))
written_bytes NoText text = sym (append-nil (encode_utf8_all text))

-- what is between two marks after a front
middle : (front marks text rest : List ℕ) (from size : ℕ) → from ≡ length front + length marks → size ≡ length text
    → take size (drop from (front ++ ((marks ++ (text ++ marks)) ++ rest))) ≡ text
middle front marks text rest from size e f =
    let whole = (marks ++ (text ++ marks)) ++ rest in
    let after_front : drop (length front + length marks) (front ++ whole) ≡ text ++ (marks ++ rest) =
    drop-append-add front whole (length marks)
    ∙ (ap (drop (length marks)) (append_assoc marks (text ++ marks) rest)
    ∙ (drop-append_seam marks ((text ++ marks) ++ rest) ∙ append_assoc text marks rest)) in
    ap₂ (λ i j. take i (drop j (front ++ whole))) f e
    ∙ (ap (take (length text)) after_front ∙ take-append_seam text (marks ++ rest))

-- the positions of a token that stands in a source
module _ (source : List ℕ) (k : ℕ) (x : Lexeme) (next : ℕ) (l : k ≤ length source) (s : StandsAt source k x next) where
  begins_at : x.span.start.index ≡ k + s.ignored
  begins_at =
      let before : k + s.ignored ≤ length source = omega (arith, l, s.ignored_is.within, length-drop k source) in
      ap (λ (p : Place). p.index) s.start ∙ place_index source (k + s.ignored) before

  ends_at : x.span.end.index ≡ (k + s.ignored) + s.size
  ends_at =
      let f = front_read (drop (k + s.ignored) source) s.size x.kind x.text s.reads in
      let before : k + s.ignored ≤ length source = omega (arith, l, s.ignored_is.within, length-drop k source) in
      let after : next ≤ length source = omega
      (arith, before, f.within, s.next_is, length-drop (k + s.ignored) source) in
      ap (λ (p : Place). p.index) s.end ∙ (place_index source next after ∙ s.next_is)

tells_text_at : (bytes : List ℕ) → IsUtf8 bytes → (k : ℕ) (x : Lexeme) (next : ℕ) → k ≤ length (chars bytes)
    → StandsAt (chars bytes) k x next → TellsText bytes x
tells_text_at bytes u k x next l s =
    let source = chars bytes in
    let from : ℕ = k + s.ignored in
    let marks : List ℕ = quotes (spelling x.kind) in
    let text : List ℕ = encode_utf8_all x.text in
    let front : List ℕ = encode_utf8_all (take from source) in
    let rest : List ℕ = encode_utf8_all (drop s.size (drop from source)) in
    let f = front_read (drop from source) s.size x.kind x.text s.reads in
    let token : encode_utf8_all (take s.size (drop from source)) ≡ marks ++ (text ++ marks) =
    ap encode_utf8_all f.front ∙ written_bytes (spelling x.kind) x.text in
    let after_front : encode_utf8_all (drop from source) ≡ (marks ++ (text ++ marks)) ++ rest =
    ap encode_utf8_all (sym (take-append-drop s.size (drop from source)))
    ∙ (encodes-append (take s.size (drop from source)) (drop s.size (drop from source)) ∙ ap (λ t. t ++ rest) token) in
    let whole : bytes ≡ front ++ ((marks ++ (text ++ marks)) ++ rest) =
    sym (encodes-chars bytes u)
    ∙ (ap encode_utf8_all (sym (take-append-drop from source))
    ∙ (encodes-append (take from source) (drop from source) ∙ ap (λ t. front ++ t) after_front)) in
    let start : bytes_before source x.span.start.index ≡ length front =
    ap (bytes_before source) (begins_at source k x next l s) in
    let end : bytes_before source x.span.end.index ≡ length front + length (marks ++ (text ++ marks)) =
    ap (bytes_before source) (ends_at source k x next l s)
    ∙ (ap (λ t. length (encode_utf8_all t)) (take-add from s.size source)
    ∙ (ap length (encodes-append (take from source) (take s.size (drop from source)))
    ∙ (length-append front (encode_utf8_all (take s.size (drop from source)))
    ∙ ap (λ (t : List ℕ). length front + length t) token))) in
    let long : length (marks ++ (text ++ marks)) ≡ length marks + (length text + length marks) =
    length-append marks (text ++ marks) ∙ ap (λ n. length marks + n) (length-append text marks) in
    let at : bytes_before source x.span.start.index + length marks ≡ length front + length marks =
    ap (λ n. n + length marks) start in
    let size : (bytes_before source x.span.end.index - bytes_before source x.span.start.index) - 2 * length marks
    ≡ length text = omega (arith, start, end, long) in
    ap (λ (t : List ℕ).
    take ((bytes_before source x.span.end.index - bytes_before source x.span.start.index) - 2 * length marks)
    (drop (bytes_before source x.span.start.index + length marks) t)) whole
    ∙ middle front marks text rest _ _ at size

pub tells_text : (bytes : List ℕ) → IsUtf8 bytes → (before left : List ℕ) (x : Lexeme) (done after : List ℕ)
    → before ++ left ≡ chars bytes → Stands before left x done after → TellsText bytes x
tells_text bytes u before left x done after e s =
    let few : length before ≤ length (chars bytes) = omega (arith, ap length e, length-append before left) in
    tells_text_at bytes u (length before) x (length done) few
    (subst (λ (text : List ℕ). StandsAt text (length before) x (length done)) e
    (stands_from_text before left x done after s))
