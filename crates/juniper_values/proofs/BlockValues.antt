-- The lines of the value of a block string: they have no line ends, and the first and the last are not blank.
use Rattle.std.proofs.Common.{◌≡◌, ◌≢◌, refl, sym, ap, subst, ◌∙◌, append-nil, ℕ, zero, suc, Bool, true, false, ◌&&◌, ◌==◌, List, [], ◌∷◌, ◌++◌, map, drop, arith}
use Rattle.std.specs.Prelude.{if◌then◌else◌, nat_eq, All}
use Rattle.std.specs.List.{list_all, onto_first, AllByRecursion, starts_with}
use Rattle.std.proofs.lemmas.Bool.{and_left, or_parts}
use Rattle.std.proofs.lemmas.Bool.Decides.{nat_tests}
use Rattle.std.proofs.lemmas.List.Elements.{All-from_recursion}
use Rattle.juniper_values.specs.Text.{Text}
use Rattle.graphql_lexical.specs.Characters.{is_line_end}
use Rattle.juniper_values.specs.BlockStrings.{with_quotes, line_feed, lines, is_blank, common_indent, unindented, drop_blank_front, drop_blank_end, joined, block_value}
use Rattle.juniper_values.specs.laws.BlockLaws.{HasNoBlankEnds}
use Rattle.juniper_values.proofs.BlockEnds.{and_true, inner, first_filled}

-- ---- lines without line ends

abbrev Clean : Text → Type 0
Clean = AllByRecursion (λ c. is_line_end c ≡ false)

abbrev AreClean : List Text → Type 0
AreClean = AllByRecursion Clean

onto_clean : (c : ℕ) (ls : List Text) → is_line_end c ≡ false → AreClean ls → AreClean (onto_first c ls)
onto_clean c [] e h = ((e, tt), tt)
onto_clean c (line ∷ ls) e h = ((e, h.0), h.1)

lines_clean : (t : Text) → AreClean (lines t)
lines_clean [] = (tt, tt)
lines_clean (c ∷ t) = by_return (c == 13 && starts_with nat_eq t line_feed) refl (lines_clean t)
  where
    by_end : (b : Bool) → is_line_end c ≡ b → AreClean (lines t)
        → AreClean (if is_line_end c then [] ∷ lines t else onto_first c (lines t))
    by_end true e later = rw e (tt, later)
    by_end false e later = rw e (onto_clean c (lines t) e later)

    by_return : (b : Bool) → (c == 13 && starts_with nat_eq t line_feed) ≡ b
        → AreClean (lines t) → AreClean (lines (c ∷ t))
    by_return true e later = rw e later
    by_return false e later = rw e (by_end (is_line_end c) refl later)

drop_clean : (n : ℕ) (line : Text) → Clean line → Clean (drop n line)
drop_clean zero line h = h
drop_clean (suc n) [] h = h
drop_clean (suc n) (c ∷ line) h = drop_clean n line h.1

map_clean : (n : ℕ) (ls : List Text) → AreClean ls → AreClean (map (drop n) ls)
map_clean n [] h = tt
map_clean n (line ∷ ls) h = (drop_clean n line h.0, map_clean n ls h.1)

unindented_clean : (ls : List Text) → AreClean ls → AreClean (unindented ls)
unindented_clean [] h = tt
unindented_clean (line ∷ ls) h = (h.0, map_clean (common_indent ls) ls h.1)

front_clean : (ls : List Text) → AreClean ls → AreClean (drop_blank_front ls)
front_clean [] h = tt
front_clean (line ∷ ls) h = by_test (is_blank line) refl (front_clean ls h.1)
  where
    by_test : (b : Bool) → is_blank line ≡ b → AreClean (drop_blank_front ls) → AreClean (drop_blank_front (line ∷ ls))
    by_test true e later = rw e later
    by_test false e later = rw e h

end_clean : (ls : List Text) → AreClean ls → AreClean (drop_blank_end ls)
end_clean [] h = tt
end_clean (line ∷ ls) h = by_test (list_all is_blank (line ∷ ls)) refl (end_clean ls h.1)
  where
    by_test : (b : Bool) → list_all is_blank (line ∷ ls) ≡ b
        → AreClean (drop_blank_end ls) → AreClean (drop_blank_end (line ∷ ls))
    by_test true e later = rw e tt
    by_test false e later = rw e (h.0, later)

-- the lines of which the value is joined
abbrev value_lines : Text → List Text
value_lines t = inner (unindented (lines (with_quotes t)))

value_clean : (t : Text) → AreClean (value_lines t)
value_clean t =
    let ls = lines (with_quotes t) in
    let clean = unindented_clean ls (lines_clean (with_quotes t)) in
    end_clean (drop_blank_front (unindented ls)) (front_clean (unindented ls) clean)

-- ---- no carriage return

abbrev HasNoReturn : Text → Type 0
HasNoReturn = AllByRecursion (λ c. c ≢ 13)

clean_return : (line rest : Text) → Clean line → HasNoReturn rest → HasNoReturn (line ++ rest)
clean_return [] rest h r = r
clean_return (c ∷ line) rest h r =
    let other : c ≢ 13 = grind (arith, nat_tests, or_parts (c == 10) (c == 13) h.0) in
    (other, clean_return line rest h.1 r)

joined_return : (ls : List Text) → AreClean ls → HasNoReturn (joined ls)
joined_return [] h = tt
joined_return (line ∷ []) h = subst HasNoReturn (append-nil line) (clean_return line [] h.0 tt)
joined_return (line ∷ (next ∷ ls)) h =
    let other : 10 ≢ 13 = λ e. absurd (omega (arith, e)) in
    clean_return line (10 ∷ joined (next ∷ ls)) h.0 (other, joined_return (next ∷ ls) h.1)

pub no_return : (t : Text) → All (λ c. c ≢ 13) (block_value t)
no_return t = All-from_recursion (λ c. c ≢ 13) (block_value t) (joined_return (value_lines t) (value_clean t))

-- ---- the lines of the value

last_line : (line : Text) → Clean line → lines line ≡ line ∷ []
last_line [] h = refl
last_line (c ∷ line) h =
    let here = h.0 in
    let other : (c == 13 && starts_with nat_eq line line_feed) ≡ false =
    and_left _ _ (or_parts (c == 10) (c == 13) here).1 in
    rw (other, here) (ap (onto_first c) (last_line line h.1))

ended_line : (line t : Text) → Clean line → lines (line ++ 10 ∷ t) ≡ line ∷ lines t
ended_line [] t h = refl
ended_line (c ∷ line) t h =
    let here = h.0 in
    let other : (c == 13 && starts_with nat_eq (line ++ 10 ∷ t) line_feed) ≡ false =
    and_left _ _ (or_parts (c == 10) (c == 13) here).1 in
    rw (other, here) (ap (onto_first c) (ended_line line t h.1))

lines_joined : (line : Text) (ls : List Text) → AreClean (line ∷ ls) → lines (joined (line ∷ ls)) ≡ line ∷ ls
lines_joined line [] h = last_line line h.0
lines_joined line (next ∷ ls) h =
    ended_line line (joined (next ∷ ls)) h.0
    ∙ ap (λ rest. line ∷ rest) (lines_joined next ls h.1)

-- ---- the lines at the ends

all_dropped : (ls : List Text) → drop_blank_end ls ≡ [] → list_all is_blank ls ≡ true
all_dropped [] e = refl
all_dropped (line ∷ ls) e = by_test (list_all is_blank (line ∷ ls)) refl
  where
    by_test : (b : Bool) → list_all is_blank (line ∷ ls) ≡ b → list_all is_blank (line ∷ ls) ≡ true
    by_test true is = is
    by_test false is = absurd (let some : line ∷ drop_blank_end ls ≡ [] = rw is at e in cc)

-- the last line that is kept is not blank
last_filled : (ls front : List Text) (last : Text) → drop_blank_end ls ≡ front ++ last ∷ [] → is_blank last ≡ false
last_filled [] [] last e = absurd (cc)
last_filled [] (l ∷ front) last e = absurd (cc)
last_filled (line ∷ ls) front last e = by_test (list_all is_blank (line ∷ ls)) refl front e (last_filled ls)
  where
    by_test : (b : Bool) → list_all is_blank (line ∷ ls) ≡ b
        → (front : List Text) → drop_blank_end (line ∷ ls) ≡ front ++ last ∷ []
        → ((front : List Text) (last : Text) → drop_blank_end ls ≡ front ++ last ∷ [] → is_blank last ≡ false)
        → is_blank last ≡ false
    by_test true is [] e later = absurd (let no : [] ≡ last ∷ [] = rw is at e in cc)
    by_test true is (l ∷ front) e later = absurd (let no : [] ≡ l ∷ (front ++ last ∷ []) = rw is at e in cc)
    by_test false is [] e later =
        let same : line ∷ drop_blank_end ls ≡ last ∷ [] = rw is at e in
        let none : drop_blank_end ls ≡ [] = cc in
        let here : line ≡ last = cc in
        let all = all_dropped ls none in
        sym (ap is_blank here) ∙ sym (and_true (is_blank line)) ∙ ap (λ b. is_blank line && b) (sym all) ∙ is
    by_test false is (l ∷ front) e later =
        let same : line ∷ drop_blank_end ls ≡ l ∷ (front ++ last ∷ []) = rw is at e in
        let rest : drop_blank_end ls ≡ front ++ last ∷ [] = cc in
        later front last rest

-- the first line that is kept is the first that is not blank
first_kept : (ls : List Text) (line : Text) (rest : List Text) → inner ls ≡ line ∷ rest → is_blank line ≡ false
first_kept ls line rest e = by_front (drop_blank_front ls) refl
  where
    by_front : (kept : List Text) → drop_blank_front ls ≡ kept → is_blank line ≡ false
    by_front [] is = absurd (let no : [] ≡ line ∷ rest = sym (ap drop_blank_end is) ∙ e in cc)
    by_front (l ∷ kept) is =
        let some = first_filled ls l kept is in
        let here : drop_blank_end (l ∷ kept) ≡ l ∷ drop_blank_end kept = rw some in
        let same : l ∷ drop_blank_end kept ≡ line ∷ rest = sym (ap drop_blank_end is ∙ here) ∙ e in
        let first : l ≡ line = cc in
        sym (ap is_blank first) ∙ some

pub filled_ends : (t : Text) → block_value t ≢ [] → HasNoBlankEnds (block_value t)
filled_ends t some = by_lines (value_lines t) refl
  where
    by_lines : (ls : List Text) → value_lines t ≡ ls → HasNoBlankEnds (block_value t)
    by_lines [] is = absurd (some (ap joined is))
    by_lines (line ∷ ls) is =
        let are : lines (block_value t) ≡ value_lines t =
        ap (λ ks. lines (joined ks)) is ∙ lines_joined line ls (subst AreClean is (value_clean t)) ∙ sym is in
        record {
          first = λ l others e. first_kept (unindented (lines (with_quotes t))) l others (sym are ∙ e);
          last =
              λ others l e. last_filled (drop_blank_front (unindented (lines (with_quotes t)))) others l (sym are ∙ e);
        }
