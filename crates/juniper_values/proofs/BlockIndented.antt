-- The value of a block string whose lines but the first are indented by as many characters.
use Rattle.std.proofs.Common.{◌≡◌, refl, sym, ap, ◌∙◌, ℕ, ◌+◌, Bool, true, false, List, [], ◌∷◌, ◌++◌, map, length}
use Rattle.std.proofs.Common.{drop, arith}
use Rattle.std.specs.List.{list_all}
use Rattle.std.proofs.lemmas.Bool.{and_parts, and_from}
use Rattle.std.proofs.lemmas.List.{drop-drop, drop_all, drop_at}
use Rattle.juniper_values.specs.Text.{Text}
use Rattle.juniper_values.specs.BlockStrings.{is_indent, is_blank, indent, indents, least, common_indent, unindented}
use Rattle.juniper_values.specs.BlockStrings.{drop_blank_front, drop_blank_end, joined, block_value}
use Rattle.juniper_values.specs.laws.BlockLaws.{AreIndented, none, empty, after_white, IsIndented}
use Rattle.juniper_values.proofs.BlockEnds.{inner, none_at_end}
use Rattle.juniper_values.proofs.BlockUnindented.{drop_stays}

-- ---- indented lines

white_front : (white line : Text) → is_blank white ≡ true → is_blank (white ++ line) ≡ is_blank line
white_front [] line e = refl
white_front (c ∷ white) line e =
    let parts = and_parts (is_indent c) (is_blank white) e in
    let here = parts.0 in
    rw here (white_front white line parts.1)

white_indent : (white line : Text) → is_blank white ≡ true → indent (white ++ line) ≡ length white + indent line
white_indent [] line e = omega arith
white_indent (c ∷ white) line e =
    let parts = and_parts (is_indent c) (is_blank white) e in
    let here = parts.0 in
    let later = white_indent white line parts.1 in
    rw here (omega (arith, later))

more_indents : (n : ℕ) (ls ms : List Text) → AreIndented n ls ms → indents ms ≡ map (λ k. n + k) (indents ls)
more_indents n _ _ none = refl
more_indents n _ _ (empty ls ms h) = more_indents n ls ms h
more_indents n _ _ (after_white white line ls ms e blank h) = by_test (is_blank line) refl (more_indents n ls ms h)
  where
    by_test : (b : Bool) → is_blank line ≡ b → indents ms ≡ map (λ k. n + k) (indents ls)
        → indents ((white ++ line) ∷ ms) ≡ map (λ k. n + k) (indents (line ∷ ls))
    by_test true is later = rw (white_front white line blank, is) later
    by_test false is later =
        let here : indent (white ++ line) ≡ n + indent line =
        white_indent white line blank ∙ ap (λ m. m + indent line) e in
        rw (white_front white line blank, is, here) (ap (λ ns. (n + indent line) ∷ ns) later)

more_least : (n k : ℕ) (ks : List ℕ) → least (map (λ m. n + m) (k ∷ ks)) ≡ n + least (k ∷ ks)
more_least n k [] = refl
more_least n k (m ∷ ks) = let later = more_least n m ks in rw later (omega arith)

same_dropped : (n k : ℕ) (ls ms : List Text) → AreIndented n ls ms → map (drop (n + k)) ms ≡ map (drop k) ls
same_dropped n k _ _ none = refl
same_dropped n k _ _ (empty ls ms h) =
    ap (λ l. l ∷ map (drop (n + k)) ms) (drop_all (n + k) [] (omega arith) ∙ sym (drop_all k [] (omega arith)))
    ∙ ap (λ rest. drop k [] ∷ rest) (same_dropped n k ls ms h)
same_dropped n k _ _ (after_white white line ls ms e blank h) =
    ap (λ l. l ∷ map (drop (n + k)) ms) (sym (drop-drop k n (white ++ line)) ∙ ap (drop k) (drop_at white line n e))
    ∙ ap (λ rest. drop k line ∷ rest) (same_dropped n k ls ms h)

-- where no line has another character

all_blank : (ls : List Text) → indents ls ≡ [] → list_all is_blank ls ≡ true
all_blank [] e = refl
all_blank (line ∷ ls) e = by_test (is_blank line) refl (all_blank ls)
  where
    by_test : (b : Bool) → is_blank line ≡ b → (indents ls ≡ [] → list_all is_blank ls ≡ true)
        → list_all is_blank (line ∷ ls) ≡ true
    by_test true is later = rw is (later (rw is at e))
    by_test false is later = absurd (let no : indent line ∷ indents ls ≡ [] = rw is at e in cc)

map_stays : (k : ℕ) (ls : List Text) → list_all is_blank ls ≡ true → list_all is_blank (map (drop k) ls) ≡ true
map_stays k [] e = refl
map_stays k (line ∷ ls) e =
    let parts = and_parts (is_blank line) (list_all is_blank ls) e in
    and_from (is_blank (drop k line)) (list_all is_blank (map (drop k) ls))
    (drop_stays k line parts.0) (map_stays k ls parts.1)

none_in_front : (ls : List Text) → list_all is_blank ls ≡ true → drop_blank_front ls ≡ []
none_in_front [] e = refl
none_in_front (line ∷ ls) e =
    let parts = and_parts (is_blank line) (list_all is_blank ls) e in
    let h = parts.0 in
    rw h (none_in_front ls parts.1)

kept_first : (first : Text) (ls : List Text) → is_blank first ≡ false → inner (first ∷ ls) ≡ first ∷ drop_blank_end ls
kept_first first ls e =
    let stays : drop_blank_front (first ∷ ls) ≡ first ∷ ls = rw e in
    let here : drop_blank_end (first ∷ ls) ≡ first ∷ drop_blank_end ls = rw e in
    ap drop_blank_end stays ∙ here

only_first : (first : Text) (ls : List Text) → list_all is_blank ls ≡ true → inner (first ∷ ls) ≡ inner (first ∷ [])
only_first first ls e = by_test (is_blank first) refl
  where
    by_test : (b : Bool) → is_blank first ≡ b → inner (first ∷ ls) ≡ inner (first ∷ [])
    by_test true is = rw is (ap drop_blank_end (none_in_front ls e))
    by_test false is =
        kept_first first ls is ∙ ap (λ rest. first ∷ rest) (none_at_end ls e) ∙ sym (kept_first first [] is)

-- ---- the law of indented lines

none_more : (n : ℕ) (ls ms : List Text) → AreIndented n ls ms → indents ls ≡ [] → indents ms ≡ []
none_more n ls ms h e = more_indents n ls ms h ∙ ap (map (λ k. n + k)) e

blank_inner : (first : Text) (ls : List Text) → indents ls ≡ [] → inner (unindented (first ∷ ls)) ≡ inner (first ∷ [])
blank_inner first ls e =
    let k = common_indent ls in
    only_first first (map (drop k) ls) (map_stays k ls (all_blank ls e))

same_inner : (n : ℕ) (first : Text) (ls ms : List Text) → AreIndented n ls ms
    → inner (unindented (first ∷ ms)) ≡ inner (unindented (first ∷ ls))
same_inner n first ls ms h = by_indents (indents ls) refl
  where
    by_indents : (ks : List ℕ) → indents ls ≡ ks → inner (unindented (first ∷ ms)) ≡ inner (unindented (first ∷ ls))
    by_indents [] e = blank_inner first ms (none_more n ls ms h e) ∙ sym (blank_inner first ls e)
    by_indents (k ∷ ks) e =
        let more : common_indent ms ≡ n + common_indent ls =
        ap least (more_indents n ls ms h ∙ ap (map (λ m. n + m)) e)
        ∙ more_least n k ks
        ∙ ap (λ ns. n + least ns) (sym e) in
        ap (λ m. inner (first ∷ map (drop m) ms)) more
        ∙ ap (λ rest. inner (first ∷ rest)) (same_dropped n (common_indent ls) ls ms h)

pub indented_alike : (n : ℕ) (t u : Text) → IsIndented n t u → block_value u ≡ block_value t
indented_alike n t u h =
    ap (λ ls. joined (inner (unindented ls))) h.after
    ∙ ap joined (same_inner n h.first h.old h.new h.indented)
    ∙ ap (λ ls. joined (inner (unindented ls))) (sym h.before)
