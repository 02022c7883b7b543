-- Reading by texts and by numbers of characters: the same, both ways.
use Rattle.std.proofs.Common.{◌≡◌, ◌≢◌, ℕ, zero, suc, ◌<◌, ◌≤◌, ◌+◌, ◌⊎◌, inl, inr, Bool, true, false, cond, [], ◌∷◌, ◌++◌, length, take, drop, refl, sym, ap, ◌∙◌, subst, arith, append_assoc, append-nil, zero-le, suc-le-suc}
use Rattle.std.specs.Prelude.{take_while, codes}
use Rattle.std.proofs.lemmas.Bool.{eqb-false, ne_eqb}
use Rattle.std.proofs.lemmas.List.{take-append-drop, length-take-le, length-append}
use Rattle.std.proofs.lemmas.List.Sums.{take_while-cons}
use Rattle.std.proofs.Math.Seq.{take-append_seam, drop-append_seam}
use Rattle.graphql_lexical.specs.Characters.{Text, is_alphanumeric}
use Rattle.graphql_lexical.specs.Kinds.{Kind, LexicalError, UnexpectedCharacter, UnknownEscapeSequence}
use Rattle.graphql_lexical.specs.Tokens.{Any, Spells, Starts, IsNumber, StartsNumber, IsZero, Pieces, IsUnit, mark}
use Rattle.graphql_lexical.specs.Reading.{Longest, Reads, AreCounted, StringFails, Fails}
use Rattle.graphql_lexical.specs.Reading as form
use Rattle.graphql_lexical.specs.device.Indexed.{LongestAt, ReadsAt, counted, StringFailsAt, FailsAt}
use Rattle.graphql_lexical.specs.device.Indexed as now
use Rattle.graphql_lexical.proofs.Runs.{Longest_same}

-- ---- the longest front

pub to_front : (P : Text → Type 0) (rest : Text) (n : ℕ) → LongestAt P rest n → Longest P (take n rest) (drop n rest)
to_front P rest n it = record {
  holds = it.holds;
  most = λ longer more e p.
      let whole : rest ≡ longer ++ more = sym (take-append-drop n rest) ∙ e in
      let front : take (length longer) rest ≡ longer = ap (take (length longer)) whole ∙ take-append_seam longer more in
      let size : length rest ≡ length longer + length more = ap length whole ∙ length-append longer more in
      let least : length longer ≤ n = it.most (length longer) (omega (arith, size)) (subst P (sym front) p) in
      omega (arith, least, length-take-le n rest it.within);
}

pub from_front : (P : Text → Type 0) (front back : Text) → Longest P front back → LongestAt P (front ++ back) (length front)
from_front P front back it = record {
  within = omega (arith, length-append front back);
  holds = subst P (sym (take-append_seam front back)) it.holds;
  most = λ m l p.
      let less = it.most (take m (front ++ back)) (drop m (front ++ back)) (sym (take-append-drop m (front ++ back))) p in
      omega (arith, less, length-take-le m (front ++ back) l);
}

-- ---- the token at the front

pub to_reads_text : (rest : Text) (n : ℕ) (kind : Kind) (text : Text) → ReadsAt rest n kind text → Reads (take n rest) (drop n rest) kind text
to_reads_text rest n kind text r = record {
  longest = to_front Starts rest n r.longest;
  spells = elim r.spells [ inl s ↦ inl s | inr e ↦ inr (take-append-drop n rest ∙ e.0, e.1, e.2) ];
  alone = r.alone;
}

pub from_reads_text : (whole after : Text) (kind : Kind) (text : Text) → Reads whole after kind text → ReadsAt (whole ++ after) (length whole) kind text
from_reads_text whole after kind text r =
    let front = take-append_seam whole after in
    record {
      longest = from_front Starts whole after r.longest;
      spells = elim r.spells [ inl s ↦ inl (subst (λ (t : Text). Spells t kind text) (sym front) s) | inr e ↦ inr e ];
      alone = λ z c more e. r.alone (subst IsZero front z) c more (sym (drop-append_seam whole after) ∙ e);
    }

-- ---- letters and digits, counted to k at most

abbrev count : ℕ → Text → ℕ
count k rest = length (take_while is_alphanumeric (take k rest))

abbrev AreSome : ℕ → Text → Type 0
AreSome k t = Any is_alphanumeric t × (length t ≤ k)

count_none : (c : ℕ) (cs : Text) → is_alphanumeric c ≡ false → length (take_while is_alphanumeric (c ∷ cs)) ≡ 0
count_none c cs e = ap length (take_while-cons is_alphanumeric c cs ∙ ap (λ b. cond b (c ∷ take_while is_alphanumeric cs) []) e)

count_one : (c : ℕ) (cs : Text) → is_alphanumeric c ≡ true → length (take_while is_alphanumeric (c ∷ cs)) ≡ suc (length (take_while is_alphanumeric cs))
count_one c cs e = ap length (take_while-cons is_alphanumeric c cs ∙ ap (λ b. cond b (c ∷ take_while is_alphanumeric cs) []) e)

some_longest_from : (k c : ℕ) (cs : Text) (b : Bool) → is_alphanumeric c ≡ b → LongestAt (AreSome k) cs (count k cs)
    → LongestAt (AreSome (suc k)) (c ∷ cs) (count (suc k) (c ∷ cs))
some_longest_from k c cs true e h = subst (LongestAt (AreSome (suc k)) (c ∷ cs)) (sym (count_one c (take k cs) e)) (record {
  within = suc-le-suc h.within;
  holds = ((e, h.holds.0), suc-le-suc h.holds.1);
  most = elim [
    | zero ↦ λ l p. zero-le
    | suc m ↦ λ l p. suc-le-suc (h.most m (omega (arith, l)) (p.0.1, omega (arith, p.1)))
  ];
})
some_longest_from k c cs false e h = subst (LongestAt (AreSome (suc k)) (c ∷ cs)) (sym (count_none c (take k cs) e)) (record {
  within = zero-le;
  holds = (tt, zero-le);
  most = elim [ zero ↦ λ l p. zero-le | suc m ↦ λ l p. absurd (let g : false ≡ true = sym e ∙ p.0.0 in cc) ];
})

some_longest : (k : ℕ) (rest : Text) → LongestAt (AreSome k) rest (count k rest)
some_longest zero rest = record {
  within = zero-le;
  holds = (tt, zero-le);
  most = λ m l p. omega (arith, p.1, length-take-le m rest l);
}
some_longest (suc k) [] = record { within = zero-le; holds = (tt, zero-le); most = λ m l p. l }
some_longest (suc k) (c ∷ cs) = some_longest_from k c cs (is_alphanumeric c) refl (some_longest k cs)

counted_longest : (rest : Text) → LongestAt (AreSome 4) rest (counted rest)
counted_longest rest = some_longest 4 rest

counted_size : (digits after : Text) → AreCounted digits after → counted (digits ++ after) ≡ length digits
counted_size digits after h =
    Longest_same (AreSome 4) (digits ++ after) (counted (digits ++ after)) (length digits) (counted_longest (digits ++ after))
    (from_front (AreSome 4) digits after h)

counted_front : (rest : Text) → AreCounted (take (counted rest) rest) (drop (counted rest) rest)
counted_front rest = to_front (AreSome 4) rest (counted rest) (counted_longest rest)

-- all that is left are letters and digits, where as many are counted as are left
counted_all : (rest : Text) → counted rest ≡ length rest → Any is_alphanumeric rest
counted_all rest e =
    subst (Any is_alphanumeric) (ap (λ n. take n rest) e ∙ ap (λ (l : Text). take (length rest) l) (sym (append-nil rest)) ∙ take-append_seam rest [])
    (counted_longest rest).holds.0

all_counted : (digits : Text) → Any is_alphanumeric digits → length digits < 4 → counted digits ≡ length digits
all_counted digits a l =
    let h = counted_longest digits in
    let whole : take (length digits) digits ≡ digits = ap (λ (l : Text). take (length digits) l) (sym (append-nil digits)) ∙ take-append_seam digits [] in
    let some : AreSome 4 (take (length digits) digits) = subst (AreSome 4) (sym whole) (a, omega (arith, l)) in
    let most = h.most (length digits) (omega arith) some in
    omega (arith, most, h.within)

not_empty : (digits : Text) → digits ≢ [] → 0 < length digits
not_empty [] n = absurd (n refl)
not_empty (c ∷ cs) n = omega arith

-- ---- a string that has no end

u_far : (digits after : Text) → (length digits ≡ 4) ⊎ (after ≢ []) → counted (digits ++ after) ≡ length digits
    → (counted (digits ++ after) ≡ 4) ⊎ (counted (digits ++ after) < length (digits ++ after))
u_far digits after (inl four) e = inl (e ∙ four)
u_far digits after (inr some) e = inr (let s = not_empty after some in omega (arith, e, s, length-append digits after))

pub string_from_text : (before after : Text) (error : LexicalError) → StringFails before after error
    → StringFailsAt (before ++ after) (length before) error
string_from_text _ _ _ form.at_end = now.at_end
string_from_text _ _ _ (form.at_line_end h) = now.at_line_end h
string_from_text _ _ _ (form.at_control h) = now.at_control h
string_from_text _ _ _ form.lone_backslash = now.lone_backslash
string_from_text _ _ _ (form.wrong_escape {c} e u) = now.wrong_escape e (eqb-false c 117 u)
string_from_text _ _ error (form.short_unicode {digits} a l) =
    subst (λ (t : Text). StringFailsAt (codes "\\u" ++ t) (length (codes "\\u" ++ digits)) error) (sym (append-nil digits))
    (let size : 2 + length digits ≡ length (codes "\\u" ++ digits) = omega arith in
    subst (λ (n : ℕ). StringFailsAt (codes "\\u" ++ digits) n error) size
    (now.short_unicode (let e = all_counted digits a l in omega (arith, e, l)) (all_counted digits a l)))
string_from_text _ _ _ (form.wrong_unicode {digits} {after} h some far) =
    let e = counted_size digits after h in
    let t : take (counted (digits ++ after)) (digits ++ after) ≡ digits = ap (λ n. take n (digits ++ after)) e ∙ take-append_seam digits after in
    subst (λ (t : Text). StringFailsAt (codes "\\u" ++ (digits ++ after)) 1 (UnknownEscapeSequence (codes "\\u" ++ t))) t
    (now.wrong_unicode (let s = not_empty digits some in omega (arith, e, s)) (u_far digits after far e))
string_from_text _ _ _ (form.no_unicode {c} {after} h) = now.no_unicode (count_none c (take 3 after) h)

-- the rest in two, at the error's place
pub record StringFailsFound (rest : Text) (n : ℕ) (error : LexicalError) : Type 0 where
  pub before : Text
  pub after : Text
  pub whole : rest ≡ before ++ after
  pub place_is : n ≡ length before
  pub fails : StringFails before after error

first_counted : (c : ℕ) (after : Text) (b : Bool) → is_alphanumeric c ≡ b → counted (c ∷ after) ≡ 0 → is_alphanumeric c ≡ false
first_counted c after false e z = e
first_counted c after true e z = absurd (omega (arith, z, count_one c (take 3 after) e))

u_after : (after : Text) → (counted after ≡ 4) ⊎ (counted after < length after)
    → (length (take (counted after) after) ≡ 4) ⊎ (drop (counted after) after ≢ [])
u_after after (inl four) = inl (length-take-le (counted after) after (counted_longest after).within ∙ four)
u_after after (inr less) = inr (λ e.
    let size = length-append (take (counted after) after) (drop (counted after) after) in
    let w = length-take-le (counted after) after (counted_longest after).within in
    omega (arith, less, w, size, ap length e, ap length (take-append-drop (counted after) after)))

taken_some : (n : ℕ) (t : Text) → 0 < n → n ≤ length t → take n t ≡ [] → ⊥
taken_some n t s l e = omega (arith, s, ap length e, length-take-le n t l)

pub string_to_text : (rest : Text) (n : ℕ) (error : LexicalError) → StringFailsAt rest n error → StringFailsFound rest n error
string_to_text _ _ _ now.at_end = record { before = []; after = []; whole = refl; place_is = refl; fails = form.at_end }
string_to_text rest _ _ (now.at_line_end h) = record { before = []; after = rest; whole = refl; place_is = refl; fails = form.at_line_end h }
string_to_text rest _ _ (now.at_control h) = record { before = []; after = rest; whole = refl; place_is = refl; fails = form.at_control h }
string_to_text _ _ _ now.lone_backslash = record { before = codes "\\"; after = []; whole = refl; place_is = refl; fails = form.lone_backslash }
string_to_text _ _ _ (now.wrong_escape {c} {after} e u) =
    record { before = codes "\\"; after = c ∷ after; whole = refl; place_is = refl; fails = form.wrong_escape e (ne_eqb c 117 u) }
string_to_text _ _ _ (now.short_unicode {after} l e) = record {
  before = codes "\\u" ++ after;
  after = [];
  whole = sym (append-nil (codes "\\u" ++ after));
  place_is = omega arith;
  fails = form.short_unicode (counted_all after e) (omega (arith, e, l));
}
string_to_text _ _ _ (now.wrong_unicode {after} some far) = record {
  before = codes "\\";
  after = codes "u" ++ (take (counted after) after ++ drop (counted after) after);
  whole = ap (λ (t : Text). codes "\\u" ++ t) (sym (take-append-drop (counted after) after));
  place_is = refl;
  fails = form.wrong_unicode (counted_front after) (taken_some (counted after) after some (counted_longest after).within)
      (u_after after far);
}
string_to_text _ _ _ (now.no_unicode {c} {after} z) =
    record { before = codes "\\"; after = codes "u" ++ c ∷ after; whole = refl; place_is = refl; fails = form.no_unicode (first_counted c after (is_alphanumeric c) refl z) }

-- ---- no token at the front

three : (k : ℕ) → 3 + k ≡ suc (suc (suc k))
three k = omega arith

no_number : (front back : Text) → (IsNumber front → ⊥) → IsNumber (take (length front) (front ++ back)) → ⊥
no_number front back n x = n (subst IsNumber (take-append_seam front back) x)

pub fails_from_text : (front after : Text) (error : LexicalError) → Fails front after error → FailsAt (front ++ after) (length front) error
fails_from_text _ _ _ (form.number_ends {front} some h n) =
    now.number_ends (not_empty front some) (from_front StartsNumber front [] h) (no_number front [] n) (drop-append_seam front [])
fails_from_text _ _ _ (form.number_stops {front} {after} {c} some h n) =
    now.number_stops (not_empty front some) (from_front StartsNumber front (c ∷ after) h) (no_number front (c ∷ after) n) (drop-append_seam front (c ∷ after))
fails_from_text _ _ _ (form.zero_goes_on {zero} {after} {c} h z d) =
    now.zero_goes_on (from_front StartsNumber zero (c ∷ after) h) (subst IsZero (sym (take-append_seam zero (c ∷ after))) z) (drop-append_seam zero (c ∷ after)) d
fails_from_text _ _ _ (form.string_fails {units} {before} {after} {error} h f) =
    let k = length units in
    let left : drop k (units ++ (before ++ after)) ≡ before ++ after = drop-append_seam units (before ++ after) in
    let it = now.string_fails (from_front (Pieces IsUnit) units (before ++ after) h)
    (subst (λ (t : Text). StringFailsAt t (length before) error) (sym left) (string_from_text before after error f)) in
    let size : suc k + length before ≡ length (codes "\"" ++ (units ++ before)) = omega (arith, length-append units before) in
    subst (λ (n : ℕ). FailsAt ((codes "\"" ++ (units ++ before)) ++ after) n error) size
    (subst (λ (t : Text). FailsAt (codes "\"" ++ t) (suc k + length before) error) (sym (append_assoc units before after)) it)
fails_from_text _ _ error (form.block_ends {units} h) =
    subst (λ (n : ℕ). FailsAt ((mark ++ units) ++ []) n error) (three (length units))
    (subst (λ (t : Text). FailsAt (mark ++ t) (3 + length units) error) (sym (append-nil units)) (now.block_ends h))
fails_from_text _ _ error (form.block_stops {units} {after} {c} h s) =
    subst (λ (n : ℕ). FailsAt ((mark ++ units) ++ c ∷ after) n error) (three (length units)) (now.block_stops h s)
fails_from_text _ _ error (form.dots_end {dots} h) = subst (λ (t : Text). FailsAt t (length dots) error) (sym (append-nil dots)) (now.dots_end h)
fails_from_text _ _ _ (form.dots_stop c dot dots after h is n) =
    let dot_is : 46 ≡ dot = cc in
    subst (λ (d : ℕ). FailsAt (dots ++ c ∷ after) 0 (UnexpectedCharacter d)) dot_is (now.dots_stop c dots after h (λ e. n (e ∙ dot_is)))
fails_from_text _ _ _ (form.unknown h) = now.unknown h

-- the rest in two, at the error's place
pub record FailsFound (rest : Text) (n : ℕ) (error : LexicalError) : Type 0 where
  pub front : Text
  pub after : Text
  pub whole : rest ≡ front ++ after
  pub place_is : n ≡ length front
  pub fails : Fails front after error

size_is : (n : ℕ) (rest : Text) → n ≤ length rest → n ≡ length (take n rest)
size_is n rest l = sym (length-take-le n rest l)

pub fails_to_text : (rest : Text) (n : ℕ) (error : LexicalError) → FailsAt rest n error → FailsFound rest n error
fails_to_text _ _ error (now.number_ends {rest} {n} some h none e) = record {
  front = take n rest;
  after = [];
  whole = sym (take-append-drop n rest) ∙ ap (λ (t : Text). take n rest ++ t) e;
  place_is = size_is n rest h.within;
  fails = form.number_ends (taken_some n rest some h.within) (subst (Longest StartsNumber (take n rest)) e (to_front StartsNumber rest n h)) none;
}
fails_to_text _ _ error (now.number_stops {rest} {n} {c} {after} some h none e) = record {
  front = take n rest;
  after = c ∷ after;
  whole = sym (take-append-drop n rest) ∙ ap (λ (t : Text). take n rest ++ t) e;
  place_is = size_is n rest h.within;
  fails = form.number_stops (taken_some n rest some h.within) (subst (Longest StartsNumber (take n rest)) e (to_front StartsNumber rest n h)) none;
}
fails_to_text _ _ error (now.zero_goes_on {rest} {n} {c} {after} h z e d) = record {
  front = take n rest;
  after = c ∷ after;
  whole = sym (take-append-drop n rest) ∙ ap (λ (t : Text). take n rest ++ t) e;
  place_is = size_is n rest h.within;
  fails = form.zero_goes_on (subst (Longest StartsNumber (take n rest)) e (to_front StartsNumber rest n h)) z d;
}
fails_to_text _ _ error (now.string_fails {more} {k} {m} h f) =
    let s = string_to_text (drop k more) m error f in
    let whole : more ≡ take k more ++ (s.before ++ s.after) = sym (take-append-drop k more) ∙ ap (λ (t : Text). take k more ++ t) s.whole in
    record {
      front = codes "\"" ++ (take k more ++ s.before);
      after = s.after;
      whole = ap (λ (t : Text). codes "\"" ++ t) (whole ∙ sym (append_assoc (take k more) s.before s.after));
      place_is = (let e = s.place_is in omega (arith, e, length-append (take k more) s.before, length-take-le k more h.within));
      fails = form.string_fails (subst (Longest (Pieces IsUnit) (take k more)) s.whole (to_front (Pieces IsUnit) more k h)) s.fails;
    }
fails_to_text _ _ error (now.block_ends {units} h) = record {
  front = mark ++ units;
  after = [];
  whole = sym (append-nil (mark ++ units));
  place_is = three (length units);
  fails = form.block_ends h;
}
fails_to_text _ _ error (now.block_stops {c} {units} {after} h s) = record {
  front = mark ++ units;
  after = c ∷ after;
  whole = refl;
  place_is = three (length units);
  fails = form.block_stops h s;
}
fails_to_text _ _ error (now.dots_end {dots} h) =
    record { front = dots; after = []; whole = sym (append-nil dots); place_is = refl; fails = form.dots_end h }
fails_to_text _ _ error (now.dots_stop c dots after h n) =
    record { front = []; after = dots ++ c ∷ after; whole = refl; place_is = refl; fails = form.dots_stop c 46 dots after h refl n }
fails_to_text rest _ error (now.unknown h) = record { front = []; after = rest; whole = refl; place_is = refl; fails = form.unknown h }
