-- The lines around a position, from the texts before and after it.
use Rattle.std.proofs.Common.{◌≡◌, ◌∙◌, ℕ, suc, ◌+◌, ◌<◌, Bool, true, false, cond, List, [], ◌∷◌, ◌++◌, length, map, refl, sym, ap, ap₂, arith, append_assoc, length-append, Option, Some, None}
use Rattle.std.specs.Prelude.{slice_get, count_by, unwrap_or}
use Rattle.std.specs.List.{slice_split, onto_first}
use Rattle.std.proofs.lemmas.List.{length-map, map-append}
use Rattle.std.proofs.lemmas.List.Splits.{slice_split-cons_no, length-slice_split}
use Rattle.graphql_lexical.specs.Characters.{Text, is_line_feed}
use Rattle.graphql_lexical.specs.Place.{position_after}
use Rattle.firthnapkin_results.specs.Excerpts.{Around, around, without_return, ended, lines, numbered}
use Rattle.firthnapkin_results.specs.device.Excerpts.{OnLine, EndsWithLine, BeginsWithLine, IsLineAbove, IsLineBelow, line_before}

abbrev split : Text → List Text
split = slice_split is_line_feed

split_some : (t : Text) → 0 < length (split t)
split_some t = omega (arith, length-slice_split is_line_feed t)

split_one : (t : Text) → OnLine t → split t ≡ t ∷ []
split_one [] h = refl
split_one (c ∷ t) h = slice_split-cons_no is_line_feed c t h.0 ∙ ap (onto_first c) (split_one t h.1)

onto_front : (c : ℕ) (xs ys : List Text) → 0 < length xs → onto_first c (xs ++ ys) ≡ onto_first c xs ++ ys
onto_front c [] ys some = absurd (omega (arith, some))
onto_front c (x ∷ xs) ys some = refl

by_feed : (b : Bool) (c : ℕ) (whole xs ys : List Text) → whole ≡ xs ++ ys → 0 < length xs
    → cond b ([] ∷ whole) (onto_first c whole) ≡ cond b ([] ∷ xs) (onto_first c xs) ++ ys
by_feed true c whole xs ys e some = ap (λ (l : List Text). [] ∷ l) e
by_feed false c whole xs ys e some = ap (onto_first c) e ∙ onto_front c xs ys some

split_feed : (s t : Text) → split (s ++ 10 ∷ t) ≡ split s ++ split t
split_feed [] t = refl
split_feed (c ∷ s) t =
    by_feed (is_line_feed c) c (split (s ++ 10 ∷ t)) (split s) (split t) (split_feed s t) (split_some s)

both_on_line : (s t : Text) → OnLine s → OnLine t → OnLine (s ++ t)
both_on_line [] t h k = k
both_on_line (c ∷ s) t h k = (h.0, both_on_line s t h.1 k)

-- the parts of a text beside a line, if there is one
abbrev parts : Option Text → List Text
parts None = []
parts (Some t) = split t

from_line : (front after back : Text) (later : Option Text) → OnLine front → BeginsWithLine after back later
    → split (front ++ after) ≡ (front ++ back) ∷ parts later
from_line front after back None h k =
    ap (λ (t : Text). split (front ++ t)) k.0 ∙ split_one (front ++ back) (both_on_line front back h k.1)
from_line front after back (Some later) h k =
    ap (λ (t : Text). split (front ++ t)) k.0 ∙ (ap split (sym (append_assoc front back (10 ∷ later)))
    ∙ (split_feed (front ++ back) later
    ∙ ap (λ (l : List Text). l ++ split later) (split_one (front ++ back) (both_on_line front back h k.1))))

whole_split : (before front after back : Text) (earlier later : Option Text) → EndsWithLine before earlier front
    → BeginsWithLine after back later → split (before ++ after) ≡ parts earlier ++ (front ++ back) ∷ parts later
whole_split before front after back None later h k =
    ap (λ (t : Text). split (t ++ after)) h.0 ∙ from_line front after back later h.1 k
whole_split before front after back (Some earlier) later h k =
    ap (λ (t : Text). split (t ++ after)) h.0 ∙ (ap split (append_assoc earlier (10 ∷ front) after)
    ∙ (split_feed earlier (front ++ after)
    ∙ ap (λ (l : List Text). split earlier ++ l) (from_line front after back later h.1 k)))

to_line : (before front : Text) (earlier : Option Text) → EndsWithLine before earlier front
    → split before ≡ parts earlier ++ front ∷ []
to_line before front None h = ap split h.0 ∙ split_one front h.1
to_line before front (Some earlier) h =
    ap split h.0 ∙ (split_feed earlier front ∙ ap (λ (l : List Text). split earlier ++ l) (split_one front h.1))

lines_above : (before front : Text) (earlier : Option Text) → EndsWithLine before earlier front
    → count_by is_line_feed before ≡ length (parts earlier)
lines_above before front earlier h = omega (
  arith,
  length-slice_split is_line_feed before,
  ap length (to_line before front earlier h),
  length-append (parts earlier) (front ∷ []),
)

-- ---- carriage returns

ended_more : (line : Text) (more : List Text) → 0 < length more → ended (line ∷ more) ≡ without_return line ∷ ended more
ended_more line [] some = absurd (omega (arith, some))
ended_more line (next ∷ more) some = refl

ended_line : (line : Text) (later : Option Text)
    → ended (line ∷ parts later) ≡ line_before line later ∷ ended (parts later)
ended_line line None = refl
ended_line line (Some later) = ended_more line (split later) (split_some later)

ended_after : (xs : List Text) (y : Text) (ys : List Text)
    → ended (xs ++ y ∷ ys) ≡ map without_return xs ++ ended (y ∷ ys)
ended_after [] y ys = refl
ended_after (x ∷ []) y ys = refl
ended_after (x ∷ next ∷ xs) y ys = ap (λ (l : List Text). without_return x ∷ l) (ended_after (next ∷ xs) y ys)

lines_around : (before front after back : Text) (earlier later : Option Text) → EndsWithLine before earlier front
    → BeginsWithLine after back later → lines (before ++ after)
    ≡ map without_return (parts earlier) ++ line_before (front ++ back) later ∷ ended (parts later)
lines_around before front after back earlier later h k =
    ap ended (whole_split before front after back earlier later h k)
    ∙ (ended_after (parts earlier) (front ++ back) (parts later)
    ∙ ap (λ (l : List Text). map without_return (parts earlier) ++ l) (ended_line (front ++ back) later))

-- ---- numbers of lines

get_here : (xs : List Text) (y : Text) (ys : List Text) → slice_get (xs ++ y ∷ ys) (length xs) ≡ Some y
get_here [] y ys = refl
get_here (x ∷ xs) y ys = get_here xs y ys

get_none : (xs : List Text) → slice_get xs (length xs) ≡ None
get_none [] = refl
get_none (x ∷ xs) = get_none xs

line_here : (xs : List Text) (y : Text) (ys : List Text) (n : ℕ) → n ≡ length xs + 1
    → numbered (xs ++ y ∷ ys) n ≡ Some y
line_here xs y ys n e =
    let next : n ≡ suc (length xs) = omega (arith, e) in
    ap (numbered (xs ++ y ∷ ys)) next ∙ get_here xs y ys

no_line : (xs : List Text) (n : ℕ) → n ≡ length xs + 1 → numbered xs n ≡ None
no_line xs n e =
    let next : n ≡ suc (length xs) = omega (arith, e) in
    ap (numbered xs) next ∙ get_none xs

above_is : (earlier above : Option Text) (rest : List Text) → IsLineAbove earlier above
    → numbered (map without_return (parts earlier) ++ rest) (length (parts earlier)) ≡ above
above_is None above rest h = sym h
above_is (Some earlier) above rest h =
    let last = to_line earlier h.1 h.0 h.2 in
    let front = map without_return (parts h.0) in
    let these : map without_return (split earlier) ++ rest ≡ front ++ without_return h.1 ∷ rest =
    ap (λ (l : List Text). l ++ rest) (ap (map without_return) last ∙ map-append without_return (parts h.0) (h.1 ∷ []))
    ∙ append_assoc front (without_return h.1 ∷ []) rest in
    let size : length (split earlier) ≡ length front + 1 =
    omega (arith, ap length last, length-append (parts h.0) (h.1 ∷ []), length-map (parts h.0) without_return) in
    ap (λ (l : List Text). numbered l (length (split earlier))) these
    ∙ (line_here front (without_return h.1) rest (length (split earlier)) size ∙ sym h.3)

below_is : (later below : Option Text) (front : List Text) (line : Text) (n : ℕ) → IsLineBelow later below
    → n ≡ length front + 2 → numbered (front ++ line ∷ ended (parts later)) n ≡ below
below_is None below front line n h e =
    no_line (front ++ line ∷ []) n (omega (arith, e, length-append front (line ∷ []))) ∙ sym h
below_is (Some later) below front line n h e =
    let first : ended (split later) ≡ line_before h.0 h.1 ∷ ended (parts h.1) =
    ap ended (from_line [] later h.0 h.1 tt h.2) ∙ ended_line h.0 h.1 in
    let these : front ++ line ∷ ended (split later)
    ≡ (front ++ line ∷ []) ++ line_before h.0 h.1 ∷ ended (parts h.1) =
    ap (λ (l : List Text). front ++ line ∷ l) first
    ∙ sym (append_assoc front (line ∷ []) (line_before h.0 h.1 ∷ ended (parts h.1))) in
    ap (λ (l : List Text). numbered l n) these
    ∙ (line_here (front ++ line ∷ []) (line_before h.0 h.1) (ended (parts h.1)) n
    (omega (arith, e, length-append front (line ∷ []))) ∙ sym h.3)

-- ---- all of it

abbrev made : ℕ → ℕ → Option Text → Text → Option Text → Around
made n c a l b = record { number = n; column = c; above = a; line = l; below = b }

pub same_made : {n m c d : ℕ} {a x : Option Text} {l k : Text} {b y : Option Text} → n ≡ m → c ≡ d
    → a ≡ x → l ≡ k → b ≡ y
    → made n c a l b ≡ made m d x k y
same_made {n} {m} {c} {d} {a} {x} {l} {k} {b} {y} e f g h i = λ j. made (e j) (f j) (g j) (h j) (i j)

-- The parts of two texts are the lines around the position between them.
pub around_is : (before front after back : Text) (earlier later above below : Option Text)
    → EndsWithLine before earlier front → BeginsWithLine after back later → IsLineAbove earlier above
    → IsLineBelow later below
    → made ((position_after before).line + 1) (position_after before).column above (line_before (front ++ back) later)
    below ≡ around before after
around_is before front after back earlier later above below h k a b =
    let these = lines_around before front after back earlier later h k in
    let front_lines = map without_return (parts earlier) in
    let line = line_before (front ++ back) later in
    let rest = ended (parts later) in
    let count = lines_above before front earlier h in
    let size : length front_lines ≡ length (parts earlier) = length-map (parts earlier) without_return in
    same_made refl refl
    (sym (ap₂ numbered these count ∙ above_is earlier above (line ∷ rest) a))
    (sym (ap (λ (o : Option Text). unwrap_or o [])
    (ap (λ (l : List Text). numbered l ((position_after before).line + 1)) these
    ∙ line_here front_lines line rest ((position_after before).line + 1) (omega (arith, count, size)))))
    (sym (ap (λ (l : List Text). numbered l ((position_after before).line + 2)) these
    ∙ below_is later below front_lines line ((position_after before).line + 2) b (omega (arith, count, size))))
