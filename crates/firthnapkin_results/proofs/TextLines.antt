-- The lines of a text, from its bytes.
use Rattle.std.proofs.Common.{◌≡◌, ◌≢◌, ◌∙◌, ℕ, ◌<◌, ◌==◌, Bool, true, false, cond, List, [], ◌∷◌, ◌++◌, length, take, drop, refl, sym, ap, ap₂, subst, arith, append-nil, Some, None, eqb-true}
use Rattle.std.proofs.lemmas.Bool.{eqb-false}
use Rattle.std.specs.Prelude.{encode_utf8_all}
use Rattle.std.specs.Borrow.{Bor}
use Rattle.std.specs.Str.{chars, IsUtf8, NoCharPasses, NonePass}
use Rattle.std.specs.Str.Pattern.{HasCharAt, SplitsAroundMatch, StripsSuffix, FindsChar, RFindsChar, FindsCharSuffix}
use Rattle.std.proofs.lemmas.List.{nil_from_length, take-append-drop}
use Rattle.std.proofs.lemmas.Str.{chars-nil, chars-append, chars_past_char, chars_from_encodes, encodes-append, encodes-chars, encode_ascii, IsCharBoundary-at_seam, IsCharBoundary-before_ascii, IsUtf8-take, IsUtf8-drop, IsUtf8-past_char}
use Rattle.std.proofs.lemmas.Str.Pattern.{strip_suffix_char}
use Rattle.std.proofs.Math.Seq.{take-append_seam}
use Rattle.graphql_lexical.specs.Characters.{Text}
use Rattle.firthnapkin_results.specs.Excerpts.{without_return}
use Rattle.firthnapkin_results.specs.device.Excerpts.{OnLine, EndsWithLine, BeginsWithLine}

-- ---- line feeds

none_passes : (cs : Text) → NonePass (λ d. d == 10) cs → OnLine cs
none_passes [] h = tt
none_passes (c ∷ cs) h = (h.0, none_passes cs h.1)

pub no_feed : (bs : List ℕ) → IsUtf8 bs → NoCharPasses (λ d. d == 10) bs → OnLine (chars bs)
no_feed bs utf8 h = subst OnLine (chars_from_encodes h.0 bs utf8 h.1) (none_passes h.0 h.2)

module _ (bs : List ℕ) (utf8 : IsUtf8 bs) (i j : ℕ) (at : HasCharAt 10 bs i j) (within : i < length bs) where
  utf8_before : IsUtf8 (take i bs)
  utf8_before = IsUtf8-take bs i utf8 (IsCharBoundary-before_ascii bs i within (omega (arith, at.byte (omega arith))))

  utf8_from : IsUtf8 (drop i bs)
  utf8_from = IsUtf8-drop bs i utf8 (IsCharBoundary-before_ascii bs i within (omega (arith, at.byte (omega arith))))

  utf8_after : IsUtf8 (drop j bs)
  utf8_after = IsUtf8-past_char (drop i bs) (drop j bs) 10 utf8_from at.split

  around_feed : chars bs ≡ chars (take i bs) ++ 10 ∷ chars (drop j bs)
  around_feed =
      ap chars (sym (take-append-drop i bs)) ∙ chars-append (take i bs) (drop i bs) utf8_before
      ∙ ap (λ (t : Text). chars (take i bs) ++ t) (chars_past_char (drop i bs) (drop j bs) 10 utf8_from at.split)

pub last_parts : (bs earlier line : List ℕ) → IsUtf8 bs → SplitsAroundMatch (RFindsChar 10) bs earlier line
    → EndsWithLine (chars bs) (Some (chars earlier)) (chars line)
last_parts bs earlier line utf8 cut =
    let at = cut.2.1 in
    let within : cut.0 < length bs = omega (arith, at.ends, cut.5, cut.7) in
    let ends : EndsWithLine (chars bs) (Some (chars (take cut.0 bs))) (chars (drop cut.1 bs)) = (
      around_feed bs utf8 cut.0 cut.1 at within,
      no_feed (drop cut.1 bs) (utf8_after bs utf8 cut.0 cut.1 at within) cut.2.0,
    ) in
    rw (cut.3, cut.4) ends

pub first_parts : (bs line later : List ℕ) → IsUtf8 bs → SplitsAroundMatch (FindsChar 10) bs line later
    → BeginsWithLine (chars bs) (chars line) (Some (chars later))
first_parts bs line later utf8 cut =
    let at = cut.2.1 in
    let within : cut.0 < length bs = omega (arith, at.ends, cut.5, cut.7) in
    let begins : BeginsWithLine (chars bs) (chars (take cut.0 bs)) (Some (chars (drop cut.1 bs))) = (
      around_feed bs utf8 cut.0 cut.1 at within,
      no_feed (take cut.0 bs) (utf8_before bs utf8 cut.0 cut.1 at within) cut.2.0,
    ) in
    rw (cut.3, cut.4) begins

-- ---- carriage returns

return_at_end : (t : Text) → without_return (t ++ 13 ∷ []) ≡ t
return_at_end [] = refl
return_at_end (c ∷ []) = refl
return_at_end (c ∷ d ∷ t) = ap (λ (l : Text). c ∷ l) (return_at_end (d ∷ t))

by_return : (c : ℕ) (b : Bool) → c == 13 ≡ b → ((front : Text) → c ∷ [] ≢ front ++ 13 ∷ [])
    → cond b [] (c ∷ []) ≡ c ∷ []
by_return c true e none = absurd (none [] (ap (λ (d : ℕ). d ∷ []) (eqb-true c 13 e)))
by_return c false e none = refl

no_return_at_end : (t : Text) → ((front : Text) → t ≢ front ++ 13 ∷ []) → without_return t ≡ t
no_return_at_end [] none = refl
no_return_at_end (c ∷ []) none = by_return c (c == 13) refl none
no_return_at_end (c ∷ d ∷ t) none = ap (λ (l : Text). c ∷ l)
    (no_return_at_end (d ∷ t) (λ front e. none (c ∷ front) (ap (λ (l : Text). c ∷ l) e)))

return_after : (s : Text) (c : ℕ) (t : Text) → without_return (s ++ c ∷ t) ≡ s ++ without_return (c ∷ t)
return_after [] c t = refl
return_after (d ∷ []) c t = refl
return_after (d ∷ e ∷ s) c t = ap (λ (l : Text). d ∷ l) (return_after (e ∷ s) c t)

return_bytes : encode_utf8_all (13 ∷ []) ≡ 13 ∷ []
return_bytes = append-nil _ ∙ encode_ascii 13 (omega arith)

return_chars : chars (13 ∷ []) ≡ 13 ∷ []
return_chars = sym (chars_from_encodes (13 ∷ []) (13 ∷ []) (13 ∷ [], (refl, return_bytes)) return_bytes)

-- a line in two parts, of which the second is empty or not
pub return_in_front : (front back after : List ℕ) → length back ≡ 0 → chars after ≡ without_return (chars front)
    → chars after ++ chars back ≡ without_return (chars front ++ chars back)
return_in_front front back after none e =
    let nothing : chars back ≡ [] = ap chars (nil_from_length back none) ∙ chars-nil in
    ap₂ (λ (s t : Text). s ++ t) e nothing ∙ (append-nil (without_return (chars front))
    ∙ ap without_return (sym (append-nil (chars front)) ∙ ap (λ (t : Text). chars front ++ t) (sym nothing)))

return_after_front : (front back after : Text) → 0 < length back → after ≡ without_return back
    → front ++ after ≡ without_return (front ++ back)
return_after_front front [] after some e = absurd (omega (arith, some))
return_after_front front (c ∷ back) after some e = ap (λ (t : Text). front ++ t) e ∙ sym (return_after front c back)

pub return_in_back : (front back after : List ℕ) → IsUtf8 back → length back == 0 ≡ false
    → chars after ≡ without_return (chars back)
    → chars front ++ chars after ≡ without_return (chars front ++ chars back)
return_in_back front back after utf8 some e =
    let some_character : 0 < length (chars back) = by_length (chars back) refl in
    return_after_front (chars front) (chars back) (chars after) some_character e
  where
    by_length : (t : Text) → t ≡ chars back → 0 < length t
    by_length [] none =
        let size : 0 ≡ length back =
        ap (λ (t : Text). length (encode_utf8_all t)) none ∙ ap length (encodes-chars back utf8) in
        absurd (eqb-false _ _ some (sym size))
    by_length (c ∷ t) _ = omega arith

pub return_stripped : (bs : List ℕ) (rest : Bor (List ℕ)) → IsUtf8 bs → StripsSuffix (FindsCharSuffix 13) bs rest.now
    → chars rest.now ≡ without_return (chars bs)
return_stripped bs rest utf8 h =
    let e : bs ≡ rest.now ++ 13 ∷ [] = strip_suffix_char 13 bs (Some rest) h (omega arith) in
    let border = IsCharBoundary-at_seam bs rest.now (13 ∷ []) e (13 ∷ [], (refl, return_bytes)) in
    let front : IsUtf8 rest.now = subst IsUtf8 (ap (take (length rest.now)) e ∙ take-append_seam rest.now (13 ∷ []))
    (IsUtf8-take bs (length rest.now) utf8 border) in
    let whole : chars bs ≡ chars rest.now ++ 13 ∷ [] =
    ap chars e ∙ (chars-append rest.now (13 ∷ []) front ∙ ap (λ (t : Text). chars rest.now ++ t) return_chars) in
    sym (return_at_end (chars rest.now)) ∙ ap without_return (sym whole)

pub no_return_stripped : (bs : List ℕ) → IsUtf8 bs → FindsCharSuffix 13 bs None → chars bs ≡ without_return (chars bs)
no_return_stripped bs utf8 none = sym (no_return_at_end (chars bs) (λ front e. none (encode_utf8_all front)
    (sym (encodes-chars bs utf8) ∙ (ap encode_utf8_all e ∙ (encodes-append front (13 ∷ [])
    ∙ ap (λ (l : List ℕ). encode_utf8_all front ++ l) (append-nil _))))))
