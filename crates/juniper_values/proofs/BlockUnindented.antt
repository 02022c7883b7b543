-- Lines without their common indent are blank as they were before, so the same lines are left out at the ends.
use Rattle.std.proofs.Common.{◌≡◌, refl, sym, ap, ◌∙◌, ℕ, zero, suc, ◌-◌, ◌≤◌, Bool, true, false, List, [], ◌∷◌, map}
use Rattle.std.proofs.Common.{length, take, drop, arith}
use Rattle.std.specs.Prelude.{if◌then◌else◌}
use Rattle.std.specs.List.{list_all, AllByRecursion}
use Rattle.std.proofs.lemmas.Bool.{and_parts}
use Rattle.juniper_values.specs.Text.{Text}
use Rattle.juniper_values.specs.BlockStrings.{with_quotes, is_indent, is_blank, indent, indents, least, common_indent}
use Rattle.juniper_values.specs.BlockStrings.{unindented, drop_blank_front, drop_blank_end, joined, block_value}
use Rattle.juniper_values.specs.device.BlockSteps.{lines_of, begins_blank, left, left_text}
use Rattle.juniper_values.proofs.BlockLines.{has_line}
use Rattle.juniper_values.proofs.BlockEnds.{inner, first_filled, indents_front}

-- ---- lines without an indent

pub drop_stays : (k : ℕ) (line : Text) → is_blank line ≡ true → is_blank (drop k line) ≡ true
drop_stays zero line e = e
drop_stays (suc k) [] e = e
drop_stays (suc k) (c ∷ line) e = drop_stays k line (and_parts (is_indent c) (is_blank line) e).1

fills : (k : ℕ) (line : Text) → is_blank line ≡ false → k ≤ indent line → is_blank (drop k line) ≡ false
fills zero line e h = e
fills (suc k) [] e h = absurd (cc)
fills (suc k) (c ∷ line) e h = by_test (is_indent c) refl (fills k line)
  where
    by_test : (b : Bool) → is_indent c ≡ b
        → (is_blank line ≡ false → k ≤ indent line → is_blank (drop k line) ≡ false) → is_blank (drop k line) ≡ false
    by_test true w later = let more = rw w at h in later (rw w at e) (omega (arith, more))
    by_test false w later = let none = rw w at h in absurd (omega (arith, none))

-- each line is as blank without k characters as with them
abbrev AreAsBlank : ℕ → List Text → Type 0
AreAsBlank k = AllByRecursion (λ line. is_blank (drop k line) ≡ is_blank line)

as_blank_below : (k : ℕ) (ls : List Text) → AllByRecursion (λ n. k ≤ n) (indents ls) → AreAsBlank k ls
as_blank_below k [] h = tt
as_blank_below k (line ∷ ls) h = by_test (is_blank line) refl (as_blank_below k ls)
  where
    by_test : (b : Bool) → is_blank line ≡ b
        → (AllByRecursion (λ n. k ≤ n) (indents ls) → AreAsBlank k ls) → AreAsBlank k (line ∷ ls)
    by_test true is later = (drop_stays k line is ∙ sym is, later (rw is at h))
    by_test false is later = let parts = rw is at h in (fills k line is parts.0 ∙ sym is, later parts.1)

lower : (a b : ℕ) (ns : List ℕ) → a ≤ b → AllByRecursion (λ n. b ≤ n) ns → AllByRecursion (λ n. a ≤ n) ns
lower a b [] le h = tt
lower a b (n ∷ ns) le h = (omega (arith, le, h.0), lower a b ns le h.1)

least_below : (ns : List ℕ) → AllByRecursion (λ n. least ns ≤ n) ns
least_below [] = tt
least_below (n ∷ []) = (omega arith, tt)
least_below (n ∷ m ∷ ns) = (
  omega arith,
  lower (least (n ∷ m ∷ ns)) (least (m ∷ ns)) (m ∷ ns) (omega arith) (least_below (m ∷ ns)),
)

as_blank : (ls : List Text) → AreAsBlank (common_indent ls) ls
as_blank ls = as_blank_below (common_indent ls) ls (least_below (indents ls))

-- ---- blank lines are left out as before

front_dropped : (k : ℕ) (ls : List Text) → AreAsBlank k ls
    → drop_blank_front (map (drop k) ls) ≡ map (drop k) (drop_blank_front ls)
front_dropped k [] h = refl
front_dropped k (line ∷ ls) h = by_test (is_blank line) refl (front_dropped k ls h.1)
  where
    by_test : (b : Bool) → is_blank line ≡ b
        → drop_blank_front (map (drop k) ls) ≡ map (drop k) (drop_blank_front ls)
        → drop_blank_front (map (drop k) (line ∷ ls)) ≡ map (drop k) (drop_blank_front (line ∷ ls))
    by_test true is later = let e = h.0 ∙ is in rw (e, is) later
    by_test false is later = let e = h.0 ∙ is in rw (e, is) refl

front_as_blank : (k : ℕ) (ls : List Text) → AreAsBlank k ls → AreAsBlank k (drop_blank_front ls)
front_as_blank k [] h = tt
front_as_blank k (line ∷ ls) h = by_test (is_blank line) refl (front_as_blank k ls h.1)
  where
    by_test : (b : Bool) → is_blank line ≡ b → AreAsBlank k (drop_blank_front ls)
        → AreAsBlank k (drop_blank_front (line ∷ ls))
    by_test true is later = rw is later
    by_test false is later = rw is h

all_as_blank : (k : ℕ) (ls : List Text) → AreAsBlank k ls
    → list_all is_blank (map (drop k) ls) ≡ list_all is_blank ls
all_as_blank k [] h = refl
all_as_blank k (line ∷ ls) h = rw (h.0, all_as_blank k ls h.1) refl

end_dropped : (k : ℕ) (ls : List Text) → AreAsBlank k ls
    → drop_blank_end (map (drop k) ls) ≡ take (length (drop_blank_end ls)) (map (drop k) ls)
end_dropped k [] h = refl
end_dropped k (line ∷ ls) h = by_test (list_all is_blank (line ∷ ls)) refl (end_dropped k ls h.1)
  where
    by_test : (b : Bool) → list_all is_blank (line ∷ ls) ≡ b
        → drop_blank_end (map (drop k) ls) ≡ take (length (drop_blank_end ls)) (map (drop k) ls)
        → drop_blank_end (map (drop k) (line ∷ ls))
        ≡ take (length (drop_blank_end (line ∷ ls))) (map (drop k) (line ∷ ls))
    by_test true is later = let e = all_as_blank k (line ∷ ls) h ∙ is in rw (e, is) refl
    by_test false is later =
        let e = all_as_blank k (line ∷ ls) h ∙ is in rw (e, is) (ap (λ rest. drop k line ∷ rest) later)

-- ---- the lines of the value

-- the first line is blank, so it goes with those after it
blank_first : (first : Text) (others : List Text) → is_blank first ≡ true
    → drop_blank_front (unindented (first ∷ others)) ≡ map (drop (common_indent others)) (drop_blank_front others)
blank_first first others e = rw e (front_dropped (common_indent others) others (as_blank others))

none_left : (first : Text) (others : List Text) → drop_blank_front (first ∷ others) ≡ []
    → inner (unindented (first ∷ others)) ≡ []
none_left first others none = by_test (is_blank first) refl
  where
    by_test : (b : Bool) → is_blank first ≡ b → inner (unindented (first ∷ others)) ≡ []
    by_test true is =
        ap drop_blank_end (blank_first first others is ∙ ap (map (drop (common_indent others))) (rw is at none))
    by_test false is = absurd (let no : first ∷ others ≡ [] = rw is at none in cc)

pub all_blank_value : (t : Text) → drop_blank_front (lines_of t) ≡ [] → [] ≡ block_value t
all_blank_value t none =
    let h = has_line (with_quotes t) in
    sym (ap (λ ls. joined (inner (unindented ls))) h.2
    ∙ ap joined (none_left h.0 h.1 (ap drop_blank_front (sym h.2) ∙ none)))

-- where blank lines stand before these
after_blank : (k feeds : ℕ) (ls rest : List Text) → drop_blank_front rest ≡ ls → AreAsBlank k ls
    → feeds ≡ length (drop_blank_end ls) - 1 → take (suc feeds) (left k k ls) ≡ drop_blank_end (map (drop k) ls)
after_blank k feeds [] rest is h count = refl
after_blank k feeds (line ∷ ls) rest is h count =
    let some = first_filled rest line ls is in
    let more : drop_blank_end (line ∷ ls) ≡ line ∷ drop_blank_end ls = rw some refl in
    let are : suc feeds ≡ length (drop_blank_end (line ∷ ls)) = omega (arith, count, ap length more) in
    ap (λ n. take n (map (drop k) (line ∷ ls))) are ∙ sym (end_dropped k (line ∷ ls) h)

-- where none do
from_first : (k feeds : ℕ) (first : Text) (others : List Text) → is_blank first ≡ false → AreAsBlank k others
    → feeds ≡ length (drop_blank_end (first ∷ others)) - 1
    → take (suc feeds) (left 0 k (first ∷ others)) ≡ drop_blank_end (first ∷ map (drop k) others)
from_first k feeds first others is h count =
    let here : drop_blank_end (first ∷ others) ≡ first ∷ drop_blank_end others = rw is refl in
    let there : drop_blank_end (first ∷ map (drop k) others) ≡ first ∷ drop_blank_end (map (drop k) others) =
    rw is refl in
    let are : feeds ≡ length (drop_blank_end others) = omega (arith, count, ap length here) in
    ap (λ n. first ∷ take n (map (drop k) others)) are
    ∙ ap (λ rest. first ∷ rest) (sym (end_dropped k others h))
    ∙ sym there

least_same : {ms ns : List ℕ} → ms ≡ ns → least ms ≡ least ns
least_same e = ap least e

all_lines : (first : Text) (others : List Text) (skipped : Bool) (k feeds : ℕ) → skipped ≡ is_blank first
    → k ≡ common_indent (if skipped then drop_blank_front (first ∷ others)
    else drop 1 (drop_blank_front (first ∷ others)))
    → feeds ≡ length (drop_blank_end (drop_blank_front (first ∷ others))) - 1
    → take (suc feeds) (left (if skipped then k else 0) k (drop_blank_front (first ∷ others)))
    ≡ inner (unindented (first ∷ others))
all_lines first others true k feeds e least count =
    let is = sym e in
    let front : drop_blank_front (first ∷ others) ≡ drop_blank_front others = rw is refl in
    let same : k ≡ common_indent others =
    least ∙ ap common_indent front ∙ least_same (indents_front others) in
    let stay = front_as_blank (common_indent others) others (as_blank others) in
    ap (λ ls. take (suc feeds) (left k k ls)) front
    ∙ ap (λ n. take (suc feeds) (left n n (drop_blank_front others))) same
    ∙ after_blank (common_indent others) feeds (drop_blank_front others) others refl stay
    (count ∙ ap (λ ls. length (drop_blank_end ls) - 1) front)
    ∙ ap drop_blank_end (sym (blank_first first others is))
all_lines first others false k feeds e least count =
    let is = sym e in
    let front : drop_blank_front (first ∷ others) ≡ first ∷ others = rw is refl in
    let same : k ≡ common_indent others = least ∙ ap (λ ls. common_indent (drop 1 ls)) front in
    let whole : drop_blank_front (unindented (first ∷ others)) ≡ unindented (first ∷ others) = rw is refl in
    ap (λ ls. take (suc feeds) (left 0 k ls)) front
    ∙ ap (λ n. take (suc feeds) (left 0 n (first ∷ others))) same
    ∙ from_first (common_indent others) feeds first others is (as_blank others)
    (count ∙ ap (λ ls. length (drop_blank_end ls) - 1) front)
    ∙ ap drop_blank_end (sym whole)

pub value_left : (t u : Text) (skipped : Bool) (k n feeds : ℕ)
    → drop_blank_front (lines_of t) ≡ lines_of u → skipped ≡ begins_blank (lines_of t)
    → k ≡ common_indent (if skipped then lines_of u else drop 1 (lines_of u))
    → feeds ≡ length (drop_blank_end (lines_of u)) - 1 → n ≡ (if skipped then k else 0)
    → left_text k n feeds (lines_of u) ≡ block_value t
value_left t u skipped k n feeds front begins least count start =
    let h = has_line (with_quotes t) in
    let is : lines_of u ≡ drop_blank_front (h.0 ∷ h.1) = sym front ∙ ap drop_blank_front h.2 in
    ap (λ m. left_text k m feeds (lines_of u)) start
    ∙ ap (left_text k (if skipped then k else 0) feeds) is
    ∙ ap joined (all_lines h.0 h.1 skipped k feeds (begins ∙ ap begins_blank h.2)
    (least ∙ ap (λ ls. common_indent (if skipped then ls else drop 1 ls)) is)
    (count ∙ ap (λ ls. length (drop_blank_end ls) - 1) is))
    ∙ ap (λ ls. joined (inner (unindented ls))) (sym h.2)
