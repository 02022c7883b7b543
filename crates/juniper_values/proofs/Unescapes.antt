-- Escapes are replaced one by one.
use Rattle.std.proofs.Common.{◌≡◌, sym, ap, ◌∙◌, subst, ℕ, ◌<◌, List, [], ◌∷◌, ◌++◌, length, take, drop, None, Some}
use Rattle.std.proofs.Common.{append-nil, IsUtf8, arith}
use Rattle.std.specs.Prelude.{◌==◌}
use Rattle.std.specs.Str.{chars, NonePass, NoCharPasses, IsCharBoundary}
use Rattle.std.specs.Str.Pattern.{FindsChar, SplitsAroundMatch}
use Rattle.std.proofs.lemmas.List.{take-append-drop}
use Rattle.std.proofs.lemmas.Str.{chars-append, chars_past_char, chars_from_encodes, IsUtf8-take, IsUtf8-drop}
use Rattle.std.proofs.lemmas.Str.{IsCharBoundary-before_ascii}
use Rattle.juniper_values.specs.Text.{Text}
use Rattle.juniper_values.specs.Escapes.{unescape, unescape_backslash}
use Rattle.juniper_values.proofs.Writing.{onto, onto_nothing, onto_both}

-- ---- up to the first backslash

-- no character is a backslash
abbrev HasNoBackslash : Text → Type 0
HasNoBackslash = NonePass (λ c. c == 92)

copied : (p t : Text) → HasNoBackslash p → unescape (p ++ t) ≡ onto p (unescape t)
copied [] t none = sym (onto_nothing (unescape t))
copied (c ∷ p) t none = rw (none.0, copied p t none.1) (sym (onto_both (c ∷ []) p (unescape t)))

no_backslash : (bs : List ℕ) → IsUtf8 bs → NoCharPasses (λ c. c == 92) bs → HasNoBackslash (chars bs)
no_backslash bs utf8 none = subst HasNoBackslash (chars_from_encodes none.0 bs utf8 none.1) none.2

module _ (bs : List ℕ) (utf8 : IsUtf8 bs) where
  pub whole : FindsChar 92 bs None → unescape (chars bs) ≡ Some (chars bs)
  whole none =
      ap unescape (sym (append-nil (chars bs))) ∙ copied (chars bs) [] (no_backslash bs utf8 none)
      ∙ ap Some (append-nil (chars bs))

  offset : (front back : List ℕ) (cut : SplitsAroundMatch (FindsChar 92) bs front back) → IsCharBoundary bs cut.0
  offset front back cut =
      let at = cut.2.1 in
      let inside : cut.0 < length bs = omega (arith, at.ends, cut.5, cut.7) in
      IsCharBoundary-before_ascii bs cut.0 inside (omega (arith, at.byte (omega arith)))

  -- what stands before the first backslash is a text
  pub front_utf8 : (front back : List ℕ) → SplitsAroundMatch (FindsChar 92) bs front back → IsUtf8 front
  front_utf8 front back cut = subst IsUtf8 (sym cut.3) (IsUtf8-take bs cut.0 utf8 (offset front back cut))

  pub around : (front back : List ℕ) → SplitsAroundMatch (FindsChar 92) bs front back
      → unescape (chars bs) ≡ onto (chars front) (unescape_backslash (chars back))
  around front back cut =
      let i = cut.0 in
      let before = take i bs in
      let rest = drop cut.1 bs in
      let text = IsUtf8-take bs i utf8 (offset front back cut) in
      let after = chars_past_char (drop i bs) rest 92 (IsUtf8-drop bs i utf8 (offset front back cut)) cut.2.1.split in
      let is : chars bs ≡ chars before ++ 92 ∷ chars rest =
      ap chars (sym (take-append-drop i bs)) ∙ chars-append before (drop i bs) text
      ∙ ap (λ t. chars before ++ t) after in
      rw (cut.3, cut.4)
      (ap unescape is ∙ copied (chars before) (92 ∷ chars rest) (no_backslash before text cut.2.0))
