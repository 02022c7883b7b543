-- The texts of escapes that are none.
use Rattle.std.proofs.Common.{◌≡◌, ℕ, ◌+◌, ◌≤◌, ◌<◌, ◌⊎◌, ◌&&◌, ◌==◌, nat_lt, max, inl, inr, Bool, true, false, cond, List, [], ◌∷◌, ◌++◌, length, take, drop, refl, sym, ap, ◌∙◌, arith, ◌^◌, length-drop}
use Rattle.std.specs.Str.{chars, IsUtf8}
use Rattle.std.proofs.lemmas.Bool.{cond-false, eqb-true, eqb-false, le-ltb, ne_eqb, and_left, and_right}
use Rattle.std.proofs.lemmas.List.{drop_all}
use Rattle.std.proofs.lemmas.Str.{encodes-chars}
use lib.Utf8.{encodes}
use Rattle.graphql_lexical.specs.Kinds.{UnterminatedString, UnknownEscapeSequence}
use Rattle.graphql_lexical.specs.device.Indexed.{counted}
use Rattle.graphql_lexical.specs.device.Scan.{missed, after_backslash, after_u}
use Rattle.graphql_lexical.proofs.Public.{counted_within, u_short}
use Rattle.juniper_tokens.proofs.Offsets.{chars_within}

pub backslash_mark : chars (92 ∷ []) ≡ 92 ∷ []
unfolding chars
backslash_mark = refl

pub unicode_mark : chars (92 ∷ 117 ∷ []) ≡ 92 ∷ 117 ∷ []
unfolding chars
unicode_mark = refl

pub backslash_missed : (at x : ℕ) (m t cs ds : List ℕ) → m ≡ 92 ∷ [] → t ≡ x ∷ [] → cs ≡ x ∷ ds
    → missed at (UnknownEscapeSequence (m ++ t)) ≡ after_backslash at cs
backslash_missed at x m t cs ds e f g = rw (e, f, g) refl

-- the place after them
pub letters_fit : (at k : ℕ) (rest : List ℕ) → IsUtf8 rest → at + 1 + length rest < 2 ^ 64 → k ≡ counted (chars rest)
    → at + 1 + k < 2 ^ 64
letters_fit at k rest u r e = omega (arith, r, e, (counted_within (chars rest)).1, chars_within rest u)

-- whether text stands after so many characters
pub stands_after : (k : ℕ) (cs rest : List ℕ) (ends : Bool) → IsUtf8 rest → chars rest ≡ drop k cs
    → (length rest == 0) ≡ ends → cond ends (length cs ≤ k) (k < length cs)
stands_after k cs rest true u e h = omega (
  arith,
  chars_within rest u,
  ap length e,
  length-drop k cs,
  eqb-true (length rest) 0 h,
)
stands_after k cs rest false u e h = elim (below_or_not k (length cs)) [
  | inl l ↦ l
  | inr l ↦ absurd (eqb-false (length rest) 0 h (ap length (sym (encodes-chars rest u)
      ∙ ap encodes (e ∙ drop_all k cs l))))
]
  where
    below_or_not : (a b : ℕ) → (a < b) ⊎ (b ≤ a)
    below_or_not a b = grind arith

-- the text ends after so many letters and digits, fewer than four
pub u_ends : (u k : ℕ) (cs : List ℕ) → k ≡ counted cs → length cs ≤ k → k < 4
    → after_u u cs ≡ missed (u + 1 + k) UnterminatedString
u_ends u k cs e n l =
    let w = counted_within cs in
    u_short u cs (omega (arith, e)) (omega (arith, e, w.1))
    ∙ ap (λ j. missed j UnterminatedString) (omega (arith, e, w.1))

-- four, or more text after them
pub u_goes_on : (u k n : ℕ) (m t cs : List ℕ) → k ≡ counted cs → (4 ≤ k) ⊎ (k < length cs) → n ≡ max 1 k
    → m ≡ 92 ∷ 117 ∷ [] → t ≡ take n cs
    → missed u (UnknownEscapeSequence (m ++ t)) ≡ after_u u cs
u_goes_on u k n m t cs e d h f g =
    let not_short : (nat_lt (counted cs) 4 && counted cs == length cs) ≡ false = elim d [
      | inl l ↦ and_left (nat_lt (counted cs) 4) (counted cs == length cs) (le-ltb (counted cs) 4 (omega (arith, e, l)))
      | inr x ↦ and_right (nat_lt (counted cs) 4) (counted cs == length cs)
          (ne_eqb (counted cs) (length cs) (λ s. omega (arith, e, s, x)))
    ] in
    rw (f, g, h, e) (sym (cond-false (nat_lt (counted cs) 4 && counted cs == length cs) _ _ not_short))
