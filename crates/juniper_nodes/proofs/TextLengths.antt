-- What the default type reads of a String or a block string is no longer, in bytes, than its text.
use Rattle.std.proofs.Common.{◌≡◌, ℕ, zero, suc, ◌+◌, ◌≤◌, ◌<◌, Bool, true, false, cond, ◌&&◌, List, [], ◌∷◌, ◌++◌, map, drop, length, Ok, Option, Some, None, sym, refl, subst, arith, le_refl, length-append}
use Rattle.std.specs.Prelude.{◌==◌, encode_utf8_all, encode_utf8, nat_eq}
use Rattle.std.specs.Char.{len_utf8}
use Rattle.std.specs.List.{list_all, starts_with, onto_first}
use Rattle.std.proofs.lemmas.Bool.Decides.{nat_tests}
use Rattle.std.proofs.lemmas.Str.{length-encode, len_utf8_ascii, len_utf8_bounds}
use Rattle.graphql_lexical.specs.declared.kind.Kind.TheVariants.{String, BlockString}
use Rattle.graphql_lexical.specs.Characters.{is_line_end}
use Rattle.graphql_lexical.specs.Tokens.{mark}
use Rattle.juniper_values.specs.Text.{Text}
use Rattle.juniper_values.specs.Scalar.{text}
use Rattle.juniper_values.specs.Default.{default_reading, string_reading}
use Rattle.juniper_values.specs.Escapes.{short_escape, unicode_escape, in_front, unescape, unescape_backslash, unescape_u}
use Rattle.juniper_values.specs.BlockStrings.{with_quotes, line_feed, lines, is_blank, common_indent, unindented, drop_blank_front, drop_blank_end, joined, block_value}

-- ---- the bytes of a text

abbrev pub size : Text → ℕ
size [] = 0
size (c ∷ t) = len_utf8 c + size t

pub size_is : (t : Text) → length (encode_utf8_all t) ≡ size t
size_is [] = refl
size_is (c ∷ t) = omega (arith, length-append (encode_utf8 c) (encode_utf8_all t), length-encode c, size_is t)

pub size_joins : (t u : Text) → size (t ++ u) ≡ size t + size u
size_joins [] u = omega arith
size_joins (c ∷ t) u = omega (arith, size_joins t u)

-- ---- escapes

front_is : (c : Option ℕ) (t : Option Text) (u : Text) → in_front c t ≡ Some u
    → (d : ℕ) × (v : Text) × (c ≡ Some d) × (t ≡ Some v) × (d ∷ v ≡ u)
front_is None t u e = absurd (cc e)
front_is (Some d) None u e = absurd (cc e)
front_is (Some d) (Some v) u e = (d, v, refl, refl, cc)

-- what a backslash and a character stand for takes one byte in place of two
short_is_low : (c d : ℕ) → short_escape c ≡ Some d → d < 128
short_is_low c d e = grind (arith, nat_tests)

short_is_one : (c d : ℕ) → short_escape c ≡ Some d → len_utf8 d ≡ 1
short_is_one c d e = len_utf8_ascii d (short_is_low c d e)

-- One character, and what stands after it, which is no longer than its own text: w bytes are there for the character.
in_front_is_short : (c : Option ℕ) (w : ℕ) (t u : Text) → ((d : ℕ) → c ≡ Some d → len_utf8 d ≤ w)
    → ((v : Text) → unescape t ≡ Some v → size v ≤ size t)
    → in_front c (unescape t) ≡ Some u → size u ≤ w + size t
in_front_is_short c w t u narrow short e =
    let (d, v, first, rest, whole) = front_is c (unescape t) u e in
    subst (λ (z : Text). size z ≤ w + size t) whole (omega (arith, narrow d first, short v rest))

itself : (c d : ℕ) → Some c ≡ Some d → len_utf8 d ≤ len_utf8 c
itself c d e = let same : c ≡ d = cc in subst (λ (z : ℕ). len_utf8 z ≤ len_utf8 c) same (le_refl (len_utf8 c))

by_backslash : (c : ℕ) (t u : Text) (b : Bool) → ((v : Text) → unescape t ≡ Some v → size v ≤ size t)
    → (unescape_backslash t ≡ Some u → size u ≤ 1 + size t)
    → cond b (unescape_backslash t) (in_front (Some c) (unescape t)) ≡ Some u → size u ≤ len_utf8 c + size t
by_backslash c t u true short after e = omega (arith, after e, (len_utf8_bounds c).0)
by_backslash c t u false short after e = in_front_is_short (Some c) (len_utf8 c) t u (itself c) short e

by_u : (c : ℕ) (t u : Text) (b : Bool) → ((v : Text) → unescape t ≡ Some v → size v ≤ size t)
    → (unescape_u t ≡ Some u → size u ≤ 2 + size t)
    → cond b (unescape_u t) (in_front (short_escape c) (unescape t)) ≡ Some u → size u ≤ 1 + (len_utf8 c + size t)
by_u c t u true short after e = omega (arith, after e, (len_utf8_bounds c).0)
by_u c t u false short after e =
    omega (
      arith,
      in_front_is_short (short_escape c) 1 t u (λ d p.
          subst (λ (z : ℕ). z ≤ 1) (sym (short_is_one c d p)) (le_refl 1)) short e,
    )

mutual
  unescape_is_short : (t u : Text) → unescape t ≡ Some u → size u ≤ size t
  unescape_is_short [] u e = let same : [] ≡ u = cc in subst (λ (z : Text). size z ≤ 0) same (le_refl 0)
  unescape_is_short (c ∷ t) u e = by_backslash c t u (c == 92) (λ v p. unescape_is_short t v p)
      (λ p. unescape_backslash_is_short t u p) e

  unescape_backslash_is_short : (t u : Text) → unescape_backslash t ≡ Some u → size u ≤ 1 + size t
  unescape_backslash_is_short [] u e = absurd (cc e)
  unescape_backslash_is_short (c ∷ t) u e =
      by_u c t u (c == 117) (λ v p. unescape_is_short t v p) (λ p. unescape_u_is_short t u p) e

  unescape_u_is_short : (t u : Text) → unescape_u t ≡ Some u → size u ≤ 2 + size t
  unescape_u_is_short [] u e = absurd (cc e)
  unescape_u_is_short (h ∷ []) u e = absurd (cc e)
  unescape_u_is_short (h ∷ i ∷ []) u e = absurd (cc e)
  unescape_u_is_short (h ∷ i ∷ j ∷ []) u e = absurd (cc e)
  unescape_u_is_short (h ∷ i ∷ j ∷ k ∷ t) u e =
      let short = in_front_is_short (unicode_escape h i j k) 4 t u (λ d p. (len_utf8_bounds d).1)
      (λ v p. unescape_is_short t v p) e in
      omega (arith, short, (len_utf8_bounds h).0, (len_utf8_bounds i).0, (len_utf8_bounds j).0, (len_utf8_bounds k).0)

-- ---- block strings

with_quotes_is_short : (t : Text) → size (with_quotes t) ≤ size t
with_quotes_is_short [] = le_refl 0
with_quotes_is_short (c ∷ t) = by_mark (c == 92 && starts_with nat_eq t mark) (with_quotes_is_short t)
  where
    by_mark : (b : Bool) → size (with_quotes t) ≤ size t
        → size (cond b (with_quotes t) (c ∷ with_quotes t)) ≤ len_utf8 c + size t
    by_mark true short = omega (arith, short)
    by_mark false short = omega (arith, short)

-- the bytes of lines, each with its end
abbrev measure : List Text → ℕ
measure [] = 0
measure (line ∷ ls) = suc (size line + measure ls)

some_measure : (c : ℕ) (ls : List Text) → 0 < length ls → measure (onto_first c ls) ≡ len_utf8 c + measure ls
some_measure c [] some = absurd (omega (arith, some))
some_measure c (line ∷ ls) some = omega arith

onto_first_some : (c : ℕ) (ls : List Text) → 0 < length (onto_first c ls)
onto_first_some c [] = omega arith
onto_first_some c (line ∷ ls) = omega arith

lines_some : (t : Text) → 0 < length (lines t)
lines_some [] = omega arith
lines_some (c ∷ t) = by_end (c == 13 && starts_with nat_eq t line_feed) (is_line_end c) (lines_some t)
  where
    by_end : (a b : Bool) → 0 < length (lines t)
        → 0 < length (cond a (lines t) (cond b ([] ∷ lines t) (onto_first c (lines t))))
    by_end true b some = some
    by_end false true some = omega arith
    by_end false false some = onto_first_some c (lines t)

lines_are_short : (t : Text) → measure (lines t) ≤ suc (size t)
lines_are_short [] = omega arith
lines_are_short (c ∷ t) = by_end (c == 13 && starts_with nat_eq t line_feed) (is_line_end c) (lines_are_short t)
  where
    by_end : (a b : Bool) → measure (lines t) ≤ suc (size t)
        → measure (cond a (lines t) (cond b ([] ∷ lines t) (onto_first c (lines t)))) ≤ suc (len_utf8 c + size t)
    by_end true b short = omega (arith, short)
    by_end false true short = omega (arith, short, (len_utf8_bounds c).0)
    by_end false false short = omega (arith, short, some_measure c (lines t) (lines_some t))

pub drop_is_short : (n : ℕ) (t : Text) → size (drop n t) ≤ size t
drop_is_short zero t = le_refl (size t)
drop_is_short (suc n) [] = le_refl 0
drop_is_short (suc n) (c ∷ t) = omega (arith, drop_is_short n t)

dropped_are_short : (n : ℕ) (ls : List Text) → measure (map (drop n) ls) ≤ measure ls
dropped_are_short n [] = le_refl 0
dropped_are_short n (line ∷ ls) = omega (arith, drop_is_short n line, dropped_are_short n ls)

unindented_are_short : (ls : List Text) → measure (unindented ls) ≤ measure ls
unindented_are_short [] = le_refl 0
unindented_are_short (first ∷ others) = omega (arith, dropped_are_short (common_indent others) others)

front_dropped : (ls : List Text) → measure (drop_blank_front ls) ≤ measure ls
front_dropped [] = le_refl 0
front_dropped (line ∷ ls) = by_blank (is_blank line) (front_dropped ls)
  where
    by_blank : (b : Bool) → measure (drop_blank_front ls) ≤ measure ls
        → measure (cond b (drop_blank_front ls) (line ∷ ls)) ≤ suc (size line + measure ls)
    by_blank true short = omega (arith, short)
    by_blank false short = omega arith

end_dropped : (ls : List Text) → measure (drop_blank_end ls) ≤ measure ls
end_dropped [] = le_refl 0
end_dropped (line ∷ ls) = by_blank (list_all is_blank (line ∷ ls)) (end_dropped ls)
  where
    by_blank : (b : Bool) → measure (drop_blank_end ls) ≤ measure ls
        → measure (cond b [] (line ∷ drop_blank_end ls)) ≤ suc (size line + measure ls)
    by_blank true short = omega arith
    by_blank false short = omega (arith, short)

joined_is_short : (ls : List Text) (n : ℕ) → measure ls ≤ suc n → size (joined ls) ≤ n
joined_is_short [] n le = omega arith
joined_is_short (line ∷ []) n le = omega (arith, le)
joined_is_short (line ∷ next ∷ ls) n le =
    let short = joined_is_short (next ∷ ls) (size next + measure ls) (omega arith) in
    omega (arith, le, short, size_joins line (10 ∷ joined (next ∷ ls)))

block_value_is_short : (t : Text) → size (block_value t) ≤ size t
block_value_is_short t =
    let ls = lines (with_quotes t) in
    joined_is_short (drop_blank_end (drop_blank_front (unindented ls))) (size t)
    (omega (
      arith,
      end_dropped (drop_blank_front (unindented ls)),
      front_dropped (unindented ls),
      unindented_are_short ls,
      lines_are_short (with_quotes t),
      with_quotes_is_short t,
    ))

-- ---- readings

reading_is_short : (t u : Text) (v : Option Text) → ((w : Text) → v ≡ Some w → size w ≤ size t)
    → string_reading t v ≡ Ok (text u) → size u ≤ size t
reading_is_short t u None short e = absurd (cc e)
reading_is_short t u (Some w) short e =
    let same : w ≡ u = cc in subst (λ (z : Text). size z ≤ size t) same (short w refl)

-- A String means a text that is no longer than it is written.
pub string_is_short : (t u : Text) → default_reading String t ≡ Ok (text u) → size u ≤ size t
string_is_short t u e = reading_is_short t u (unescape t) (unescape_is_short t) e

-- So does a block string.
pub block_is_short : (t u : Text) → default_reading BlockString t ≡ Ok (text u) → size u ≤ size t
block_is_short t u e =
    let same : block_value t ≡ u = cc in subst (λ (z : Text). size z ≤ size t) same (block_value_is_short t)
