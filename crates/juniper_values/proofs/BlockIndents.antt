-- The common indent, character by character.
use Rattle.std.proofs.Common.{◌≡◌, refl, sym, ap, ◌∙◌, ℕ, ◌+◌, ◌≤◌, Bool, true, false, List, [], ◌∷◌, ◌++◌, drop}
use Rattle.std.proofs.Common.{Option, Some, None, arith}
use Rattle.std.specs.Prelude.{if◌then◌else◌, option_to_list, unwrap_or}
use Rattle.std.specs.List.{onto_first}
use Rattle.juniper_values.specs.Text.{Text}
use Rattle.graphql_lexical.specs.Characters.{is_line_end}
use Rattle.juniper_values.specs.BlockStrings.{is_indent, is_blank, indent, indents, least, common_indent}
use Rattle.juniper_values.specs.device.BlockSteps.{lines_of, is_left_out, white_before, place_after, lesser}
use Rattle.juniper_values.specs.device.BlockSteps.{least_after}
use Rattle.juniper_values.specs.declared.block_string.Place.{Place}
use Rattle.juniper_values.specs.declared.block_string.Place.TheVariants.{First, Indent, AfterIndent}
use Rattle.juniper_values.proofs.BlockLines.{left_out, line_ended, line_goes_on, others_stay}

-- The indents that a text adds, whose first line goes on from a place.
abbrev pub added : Place → List Text → List ℕ
added (Indent n) [] = []
added (Indent n) (line ∷ ls) = if is_blank line then indents ls else (n + indent line) ∷ indents ls
added First ls = indents (drop 1 ls)
added AfterIndent ls = indents (drop 1 ls)

-- the least of what was seen and of what the text adds
abbrev pub least_with : Option ℕ → Place → List Text → ℕ
least_with o place ls = least (option_to_list o ++ added place ls)

begins : (ls : List Text) → added (Indent 0) ls ≡ indents ls
begins [] = refl
begins (line ∷ ls) = let e : 0 + indent line ≡ indent line = omega arith in rw e

-- one more number among those seen
sooner : (o : Option ℕ) (n : ℕ) (ns : List ℕ) → least (option_to_list o ++ n ∷ ns) ≡ least (lesser o n ∷ ns)
sooner None n ns = refl
sooner (Some m) n [] = refl
sooner (Some m) n (k ∷ ns) = omega arith

at_end : (o : Option ℕ) (place : Place) (ls : List Text) → added place ([] ∷ ls) ≡ indents ls
at_end o First ls = refl
at_end o (Indent n) ls = refl
at_end o AfterIndent ls = refl

-- ---- one character

ended : (o : Option ℕ) (place : Place) (c : ℕ) (ls : List Text) → is_line_end c ≡ true
    → least_with (least_after o place c) (place_after place c) ls ≡ least_with o place ([] ∷ ls)
ended o First c ls e = rw e (ap (λ ns. least (option_to_list o ++ ns)) (begins ls))
ended o (Indent n) c ls e = rw e (ap (λ ns. least (option_to_list o ++ ns)) (begins ls))
ended o AfterIndent c ls e = rw e (ap (λ ns. least (option_to_list o ++ ns)) (begins ls))

-- a tab or a space in front of a line
whiter : (n c : ℕ) (ls : List Text) → is_indent c ≡ true
    → added (Indent (n + 1)) ls ≡ added (Indent n) (onto_first c ls)
whiter n c [] e = rw e
whiter n c (line ∷ ls) e = let s : n + 1 + indent line ≡ n + (indent line + 1) = omega arith in rw (e, s)

-- another character in front of a line
filled : (n c : ℕ) (ls : List Text) → is_indent c ≡ false
    → n ∷ added AfterIndent ls ≡ added (Indent n) (onto_first c ls)
filled n c [] e = let s : n ≡ n + 0 = omega arith in rw e (ap (λ m. m ∷ []) s)
filled n c (line ∷ ls) e = let s : n ≡ n + 0 = omega arith in rw e (ap (λ m. m ∷ indents ls) s)

goes_on : (o : Option ℕ) (place : Place) (c : ℕ) (ls : List Text) → is_line_end c ≡ false
    → least_with (least_after o place c) (place_after place c) ls ≡ least_with o place (onto_first c ls)
goes_on o First c ls e = rw e (ap (λ ms. least (option_to_list o ++ indents ms)) (sym (others_stay c ls)))
goes_on o AfterIndent c ls e = rw e (ap (λ ms. least (option_to_list o ++ indents ms)) (sym (others_stay c ls)))
goes_on o (Indent n) c ls e = by_test (is_indent c) refl
  where
    by_test : (b : Bool) → is_indent c ≡ b
        → least_with (least_after o (Indent n) c) (place_after (Indent n) c) ls
        ≡ least_with o (Indent n) (onto_first c ls)
    by_test true w = rw (e, w) (ap (λ ns. least (option_to_list o ++ ns)) (whiter n c ls w))
    by_test false w =
        rw (e, w) (sym (sooner o n (added AfterIndent ls))
        ∙ ap (λ ns. least (option_to_list o ++ ns)) (filled n c ls w))

-- ---- the loop

-- whether blank lines were skipped before or not
pub starts : (skipped : Bool) (place : Place) (ls : List Text) → place ≡ (if skipped then Indent 0 else First)
    → least_with None place ls ≡ common_indent (if skipped then ls else drop 1 ls)
starts true place ls e = rw e (ap least (begins ls))
starts false place ls e = rw e refl

pub skipped : (o : Option ℕ) (place : Place) (c : ℕ) (t u : Text) (all : ℕ) → is_left_out c t ≡ true → u ≡ c ∷ t
    → least_with o place (lines_of u) ≡ all → least_with o place (lines_of t) ≡ all
skipped o place c t u all e is so_far = ap (least_with o place) (sym (left_out c t e) ∙ ap lines_of (sym is)) ∙ so_far

one_read : (o : Option ℕ) (place : Place) (c : ℕ) (t : Text) → is_left_out c t ≡ false
    → least_with (least_after o place c) (place_after place c) (lines_of t) ≡ least_with o place (lines_of (c ∷ t))
one_read o place c t e = by_test (is_line_end c) refl
  where
    by_test : (b : Bool) → is_line_end c ≡ b
        → least_with (least_after o place c) (place_after place c) (lines_of t)
        ≡ least_with o place (lines_of (c ∷ t))
    by_test true is = ended o place c (lines_of t) is ∙ ap (least_with o place) (sym (line_ended c t e is))
    by_test false is = goes_on o place c (lines_of t) is ∙ ap (least_with o place) (sym (line_goes_on c t e is))

pub turned : (o p : Option ℕ) (place next : Place) (c : ℕ) (t u : Text) (all : ℕ)
    → is_left_out c t ≡ false → u ≡ c ∷ t → p ≡ least_after o place c → next ≡ place_after place c
    → least_with o place (lines_of u) ≡ all → least_with p next (lines_of t) ≡ all
turned o p place next c t u all e is least there so_far =
    ap (λ q. least_with q next (lines_of t)) least
    ∙ ap (λ there. least_with (least_after o place c) there (lines_of t)) there
    ∙ one_read o place c t e
    ∙ ap (λ v. least_with o place (lines_of v)) (sym is)
    ∙ so_far

-- the least of what was seen
least_seen : (o : Option ℕ) → unwrap_or o 0 ≡ least (option_to_list o ++ [])
least_seen None = refl
least_seen (Some n) = refl

pub finished : (o : Option ℕ) (place : Place) (u : Text) (all : ℕ) → u ≡ []
    → least_with o place (lines_of u) ≡ all → unwrap_or o 0 ≡ all
finished o place u all none so_far =
    least_seen o ∙ ap (λ ns. least (option_to_list o ++ ns)) (sym (at_end o place []))
    ∙ ap (λ v. least_with o place (lines_of v)) (sym none)
    ∙ so_far

-- the count rises by one at most
pub rises_by_one : (place : Place) (c : ℕ) → white_before (place_after place c) ≤ white_before place + 1
rises_by_one First c = by_test (is_line_end c) refl
  where
    by_test : (b : Bool) → is_line_end c ≡ b → white_before (place_after First c) ≤ 1
    by_test true e = rw e (omega arith)
    by_test false e = rw e (omega arith)
rises_by_one AfterIndent c = by_test (is_line_end c) refl
  where
    by_test : (b : Bool) → is_line_end c ≡ b → white_before (place_after AfterIndent c) ≤ 1
    by_test true e = rw e (omega arith)
    by_test false e = rw e (omega arith)
rises_by_one (Indent n) c = by_test (is_line_end c) refl (is_indent c) refl
  where
    by_test : (b : Bool) → is_line_end c ≡ b → (w : Bool) → is_indent c ≡ w
        → white_before (place_after (Indent n) c) ≤ n + 1
    by_test true e w f = rw e (omega arith)
    by_test false e true f = rw (e, f) (omega arith)
    by_test false e false f = rw (e, f) (omega arith)
