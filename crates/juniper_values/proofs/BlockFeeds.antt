-- The line feeds of a block string's value, counted character by character.
use Rattle.std.proofs.Common.{◌≡◌, refl, sym, ap, ◌∙◌, ℕ, ◌+◌, ◌-◌, Bool, true, false, ◌&&◌, List, [], ◌∷◌, length}
use Rattle.std.proofs.Common.{arith}
use Rattle.std.specs.Prelude.{if◌then◌else◌}
use Rattle.std.specs.List.{list_all, onto_first}
use Rattle.juniper_values.specs.Text.{Text}
use Rattle.graphql_lexical.specs.Characters.{is_line_end}
use Rattle.juniper_values.specs.BlockStrings.{is_indent, is_blank, drop_blank_end}
use Rattle.juniper_values.specs.device.BlockSteps.{lines_of, is_left_out, place_after, is_in_indent}
use Rattle.juniper_values.specs.declared.block_string.Place.{Place}
use Rattle.juniper_values.specs.declared.block_string.Place.TheVariants.{First, Indent, AfterIndent}
use Rattle.juniper_values.proofs.BlockLines.{left_out, line_ended, line_goes_on}
use Rattle.juniper_values.proofs.BlockEnds.{none_at_end}

-- After so many line ends, how many come before the last line that is not blank, of which `feeds` is known so far.
abbrev pub feeds_with : ℕ → ℕ → List Text → ℕ
feeds_with feeds ends [] = feeds
feeds_with feeds ends (line ∷ ls) = feeds_with (if is_blank line then feeds else ends) (ends + 1) ls

-- ---- all lines

all_blank : (feeds ends : ℕ) (ls : List Text) → list_all is_blank ls ≡ true → feeds_with feeds ends ls ≡ feeds
all_blank feeds ends [] e = refl
all_blank feeds ends (line ∷ ls) e = by_test (is_blank line) refl (all_blank feeds (ends + 1) ls)
  where
    by_test : (b : Bool) → is_blank line ≡ b
        → (list_all is_blank ls ≡ true → feeds_with feeds (ends + 1) ls ≡ feeds)
        → feeds_with feeds ends (line ∷ ls) ≡ feeds
    by_test true is later = rw is (later (rw is at e))
    by_test false is later = absurd (let no : false ≡ true = rw is at e in cc)

some_filled : (feeds ends : ℕ) (ls : List Text) → list_all is_blank ls ≡ false
    → feeds_with feeds ends ls + 1 ≡ ends + length (drop_blank_end ls)
some_filled feeds ends [] e = absurd (cc)
some_filled feeds ends (line ∷ ls) e =
    by_test (is_blank line) refl (list_all is_blank ls) refl (λ f. some_filled f (ends + 1) ls)
  where
    by_test : (b : Bool) → is_blank line ≡ b → (all : Bool) → list_all is_blank ls ≡ all
        → ((f : ℕ) → list_all is_blank ls ≡ false
        → feeds_with f (ends + 1) ls + 1 ≡ ends + 1 + length (drop_blank_end ls))
        → feeds_with feeds ends (line ∷ ls) + 1 ≡ ends + length (drop_blank_end (line ∷ ls))
    by_test true is true are later = absurd (let no : true ≡ false = rw (is, are) at e in cc)
    by_test true is false are later = rw (is, are) (omega (arith, later feeds are))
    by_test false is true are later =
        let here = all_blank ends (ends + 1) ls are in
        let none = ap length (none_at_end ls are) in
        rw is (omega (arith, here, none))
    by_test false is false are later = rw is (omega (arith, later ends are))

counted : (ls : List Text) → feeds_with 0 0 ls ≡ length (drop_blank_end ls) - 1
counted ls = by_test (list_all is_blank ls) refl
  where
    by_test : (b : Bool) → list_all is_blank ls ≡ b → feeds_with 0 0 ls ≡ length (drop_blank_end ls) - 1
    by_test true e = omega (arith, all_blank 0 0 ls e, ap length (none_at_end ls e))
    by_test false e = omega (arith, some_filled 0 0 ls e)

-- ---- one character

same : (b : Bool) (n : ℕ) → (if b then n else n) ≡ n
same true n = refl
same false n = refl

white_in_front : (feeds ends c : ℕ) (ls : List Text) → is_indent c ≡ true
    → feeds_with feeds ends (onto_first c ls) ≡ feeds_with feeds ends ls
white_in_front feeds ends c [] e = ap (λ b. if b && true then feeds else ends) e
white_in_front feeds ends c (line ∷ ls) e =
    ap (λ b. feeds_with (if b && is_blank line then feeds else ends) (ends + 1) ls) e

-- a line that is not blank goes on
filled_goes_on : (ends c : ℕ) (ls : List Text) → feeds_with ends ends (onto_first c ls) ≡ feeds_with ends ends ls
filled_goes_on ends c [] = same (is_blank (c ∷ [])) ends
filled_goes_on ends c (line ∷ ls) =
    ap (λ f. feeds_with f (ends + 1) ls) (same (is_blank (c ∷ line)) ends ∙ sym (same (is_blank line) ends))

filled_in_front : (feeds ends c : ℕ) (ls : List Text) → is_indent c ≡ false
    → feeds_with feeds ends (onto_first c ls) ≡ feeds_with ends ends ls
filled_in_front feeds ends c [] e = ap (λ b. if b && true then feeds else ends) e
filled_in_front feeds ends c (line ∷ ls) e =
    ap (λ b. feeds_with (if b && is_blank line then feeds else ends) (ends + 1) ls) e
    ∙ ap (λ f. feeds_with f (ends + 1) ls) (sym (same (is_blank line) ends))

-- past the indent, and within it

past_indent : (feeds ends : ℕ) (place : Place) (c : ℕ) (ls : List Text) → is_line_end c ≡ false
    → (is_in_indent place ≡ false → feeds ≡ ends) → is_in_indent (place_after place c) ≡ false
    → feeds_with feeds ends (onto_first c ls) ≡ feeds_with ends ends ls
past_indent feeds ends First c ls on known out = rw (known refl) (filled_goes_on ends c ls)
past_indent feeds ends AfterIndent c ls on known out = rw (known refl) (filled_goes_on ends c ls)
past_indent feeds ends (Indent n) c ls on known out = by_test (is_indent c) refl
  where
    by_test : (b : Bool) → is_indent c ≡ b → feeds_with feeds ends (onto_first c ls) ≡ feeds_with ends ends ls
    by_test true w = absurd (let no : true ≡ false = rw (on, w) at out in cc)
    by_test false w = filled_in_front feeds ends c ls w

in_indent : (feeds ends : ℕ) (place : Place) (c : ℕ) (ls : List Text) → is_line_end c ≡ false
    → is_in_indent (place_after place c) ≡ true
    → feeds_with feeds ends (onto_first c ls) ≡ feeds_with feeds ends ls
in_indent feeds ends First c ls on within = absurd (let no : false ≡ true = rw on at within in cc)
in_indent feeds ends AfterIndent c ls on within = absurd (let no : false ≡ true = rw on at within in cc)
in_indent feeds ends (Indent n) c ls on within = by_test (is_indent c) refl
  where
    by_test : (b : Bool) → is_indent c ≡ b → feeds_with feeds ends (onto_first c ls) ≡ feeds_with feeds ends ls
    by_test true w = white_in_front feeds ends c ls w
    by_test false w = absurd (let no : false ≡ true = rw (on, w) at within in cc)

-- the next line begins within its indent
pub next_line : (place : Place) (c : ℕ) → is_line_end c ≡ true → is_in_indent (place_after place c) ≡ true
next_line First c on = rw on refl
next_line (Indent n) c on = rw on refl
next_line AfterIndent c on = rw on refl

-- ---- the loop

module _ (feeds ends c : ℕ) (t u : Text) (all : ℕ) (is : u ≡ c ∷ t)
    (so_far : feeds_with feeds ends (lines_of u) ≡ all) where
  pub feeds_skipped : is_left_out c t ≡ true → feeds_with feeds ends (lines_of t) ≡ all
  feeds_skipped e = ap (feeds_with feeds ends) (sym (left_out c t e) ∙ ap lines_of (sym is)) ∙ so_far

  pub feeds_ended : is_left_out c t ≡ false → is_line_end c ≡ true → feeds_with feeds (ends + 1) (lines_of t) ≡ all
  feeds_ended e on = ap (feeds_with feeds ends) (sym (line_ended c t e on) ∙ ap lines_of (sym is)) ∙ so_far

  pub feeds_filled : (place : Place) → is_left_out c t ≡ false → is_line_end c ≡ false
      → (is_in_indent place ≡ false → feeds ≡ ends) → is_in_indent (place_after place c) ≡ false
      → feeds_with ends ends (lines_of t) ≡ all
  feeds_filled place e on known out =
      sym (past_indent feeds ends place c (lines_of t) on known out)
      ∙ ap (feeds_with feeds ends) (sym (line_goes_on c t e on) ∙ ap lines_of (sym is)) ∙ so_far

  pub feeds_indented : (place : Place) → is_left_out c t ≡ false → is_line_end c ≡ false
      → is_in_indent (place_after place c) ≡ true → feeds_with feeds ends (lines_of t) ≡ all
  feeds_indented place e on within =
      sym (in_indent feeds ends place c (lines_of t) on within)
      ∙ ap (feeds_with feeds ends) (sym (line_goes_on c t e on) ∙ ap lines_of (sym is)) ∙ so_far

pub feeds_known : (feeds ends : ℕ) (t u : Text) → u ≡ []
    → feeds_with feeds ends (lines_of u) ≡ feeds_with 0 0 (lines_of t)
    → feeds ≡ length (drop_blank_end (lines_of t)) - 1
feeds_known feeds ends t u none so_far =
    sym (ap (λ v. feeds_with feeds ends (lines_of v)) none) ∙ so_far ∙ counted (lines_of t)
