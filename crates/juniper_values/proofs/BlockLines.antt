-- What one character changes in the lines of a block string.
use Rattle.std.proofs.Common.{◌≡◌, refl, sym, ap, ◌∙◌, ℕ, Bool, true, false, ◌&&◌, ◌||◌, ◌==◌, List, [], ◌∷◌, drop}
use Rattle.std.proofs.Common.{arith}
use Rattle.std.specs.Prelude.{nat_eq, if◌then◌else◌}
use Rattle.std.specs.List.{starts_with, onto_first}
use Rattle.std.proofs.lemmas.Bool.{and_parts, or_parts}
use Rattle.std.proofs.lemmas.Bool.Decides.{nat_tests}
use Rattle.juniper_values.specs.Text.{Text}
use Rattle.graphql_lexical.specs.Characters.{is_line_end}
use Rattle.graphql_lexical.specs.Tokens.{mark}
use Rattle.juniper_values.specs.BlockStrings.{line_feed, with_quotes, lines}
use Rattle.juniper_values.specs.device.BlockSteps.{lines_of, is_left_out}

-- ---- three quotes

-- whether a character is the backslash before three quotes, or the CR before LF
abbrev quotes : ℕ → Text → Bool
quotes c t = c == 92 && starts_with nat_eq t mark

abbrev returns : ℕ → Text → Bool
returns c t = c == 13 && starts_with nat_eq t line_feed

backslash_goes : (c : ℕ) (t : Text) → quotes c t ≡ true → with_quotes (c ∷ t) ≡ with_quotes t
backslash_goes c t e = rw e

character_stays : (c : ℕ) (t : Text) → quotes c t ≡ false → with_quotes (c ∷ t) ≡ c ∷ with_quotes t
character_stays c t e = rw e

-- three quotes stand for themselves, so no line feed comes first
no_feed : (t : Text) → starts_with nat_eq t mark ≡ true → starts_with nat_eq (with_quotes t) line_feed ≡ false
no_feed [] e = absurd (cc)
no_feed (c ∷ t) e = let is : c ≡ 34 = grind (arith, nat_tests, and_parts (34 == c) _ e) in rw is

feed_first : (t : Text) → starts_with nat_eq (with_quotes t) line_feed ≡ starts_with nat_eq t line_feed
feed_first [] = refl
feed_first (c ∷ t) = by_test (quotes c t) refl
  where
    by_test : (b : Bool) → quotes c t ≡ b
        → starts_with nat_eq (with_quotes (c ∷ t)) line_feed ≡ starts_with nat_eq (c ∷ t) line_feed
    by_test true e =
        let parts = and_parts (c == 92) (starts_with nat_eq t mark) e in
        let is : c ≡ 92 = grind (arith, nat_tests, parts.0) in
        let before : starts_with nat_eq (c ∷ t) line_feed ≡ false = rw is in
        ap (λ u. starts_with nat_eq u line_feed) (backslash_goes c t e) ∙ no_feed t parts.1 ∙ sym before
    by_test false e = ap (λ u. starts_with nat_eq u line_feed) (character_stays c t e)

-- ---- the lines

return_before : (c : ℕ) (t : Text) → returns c t ≡ returns c (with_quotes t)
return_before c t = ap (λ b. c == 13 && b) (sym (feed_first t))

pub left_out : (c : ℕ) (t : Text) → is_left_out c t ≡ true → lines_of (c ∷ t) ≡ lines_of t
left_out c t e = by_test (quotes c t) refl
  where
    by_test : (b : Bool) → quotes c t ≡ b → lines_of (c ∷ t) ≡ lines_of t
    by_test true q = ap lines (backslash_goes c t q)
    by_test false q =
        let r : returns c (with_quotes t) ≡ true = sym (return_before c t) ∙ sym (ap (λ b. b || returns c t) q) ∙ e in
        ap lines (character_stays c t q) ∙ rw r

-- the lines of a character that is not left out
lines_before : (c : ℕ) (t : Text) → is_left_out c t ≡ false
    → lines_of (c ∷ t) ≡ (if is_line_end c then [] ∷ lines_of t else onto_first c (lines_of t))
lines_before c t e =
    let parts = or_parts (quotes c t) (returns c t) e in
    let r : returns c (with_quotes t) ≡ false = sym (return_before c t) ∙ parts.1 in
    ap lines (character_stays c t parts.0) ∙ rw r

pub line_ended : (c : ℕ) (t : Text) → is_left_out c t ≡ false → is_line_end c ≡ true
    → lines_of (c ∷ t) ≡ [] ∷ lines_of t
line_ended c t e is = lines_before c t e ∙ rw is

pub line_goes_on : (c : ℕ) (t : Text) → is_left_out c t ≡ false → is_line_end c ≡ false
    → lines_of (c ∷ t) ≡ onto_first c (lines_of t)
line_goes_on c t e is = lines_before c t e ∙ rw is

pub others_stay : (c : ℕ) (ls : List Text) → drop 1 (onto_first c ls) ≡ drop 1 ls
others_stay c [] = refl
others_stay c (line ∷ ls) = refl

-- each text has a first line
abbrev pub HasFirst : List Text → Type 0
HasFirst ls = (first : Text) × (others : List Text) × (ls ≡ first ∷ others)

onto_has : (c : ℕ) (ls : List Text) → HasFirst (onto_first c ls)
onto_has c [] = (c ∷ [], [], refl)
onto_has c (line ∷ ls) = (c ∷ line, ls, refl)

pub has_line : (t : Text) → HasFirst (lines t)
has_line [] = ([], [], refl)
has_line (c ∷ t) = by_return (returns c t) refl (has_line t)
  where
    by_end : (b : Bool) → is_line_end c ≡ b → HasFirst (if is_line_end c then [] ∷ lines t else onto_first c (lines t))
    by_end true e = ([], lines t, rw e)
    by_end false e = let h = onto_has c (lines t) in (h.0, h.1, rw e h.2)

    by_return : (b : Bool) → returns c t ≡ b → HasFirst (lines t) → HasFirst (lines (c ∷ t))
    by_return true e later = (later.0, later.1, rw e later.2)
    by_return false e later = let h = by_end (is_line_end c) refl in (h.0, h.1, rw e h.2)
