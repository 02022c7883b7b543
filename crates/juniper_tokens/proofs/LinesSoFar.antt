-- The beginnings of lines, as far as a source has been read.
use Rattle.std.proofs.Common.{◌≡◌, ℕ, suc, ◌+◌, ◌-◌, ◌<◌, ◌≤◌, Bool, true, false, cond, ◌==◌, List, [], ◌∷◌, ◌++◌, length, take, drop, count_by, le_refl, refl, sym, ap, ap₂, subst, ◌∙◌, arith, Some, append-nil, append_assoc, length-append, length-drop, take-add, take-append-drop}
use Rattle.std.specs.Prelude.{slice_get}
use Rattle.std.specs.List.{fold, AllByRecursion}
use Rattle.std.proofs.lemmas.List.{length-take-le, nil_from_length, take_all}
use Rattle.std.proofs.lemmas.List.Sums.{sum_by-cons}
use Rattle.std.proofs.lemmas.Option.{none-some, slice_get_past, get_or_from_slice_get}
use Rattle.graphql_lexical.specs.Place.{Place, place}
use Rattle.graphql_lexical.proofs.Public.{place_after, place_index}
use Rattle.juniper_tokens.specs.LineTables.{Lines, starts_after, lines_of, IsOnLine}
use Rattle.juniper_tokens.specs.declared.line.Line.{Line}
use Rattle.juniper_tokens.specs.device.LineSteps.{made_table, past, AreStarts, IsLine}
use Rattle.juniper_tokens.proofs.Lines.{line_place, lines_on, first_after}

none_plus : (k : ℕ) → 0 + k ≡ k
none_plus k = omega arith

plus_suc : (a b : ℕ) → (a + 1) + b ≡ a + suc b
plus_suc a b = omega arith

-- ---- of a text and another one after it

push_feed : (b : Bool) (x : ℕ) (new old more : List ℕ) → new ≡ old ++ more
    → cond b (x ∷ new) new ≡ cond b (x ∷ old) old ++ more
push_feed true x new old more e = ap (λ ss. x ∷ ss) e
push_feed false x new old more e = e

after_append : (n : ℕ) (xs ys : List ℕ)
    → starts_after n (xs ++ ys) ≡ starts_after n xs ++ starts_after (n + length xs) ys
after_append n [] ys = ap (λ k. starts_after k ys) plus_none
  where
    plus_none : n ≡ n + 0
    plus_none = omega arith
after_append n (x ∷ xs) ys = push_feed (x == 10) (n + 1) _ _ _
    (after_append (n + 1) xs ys ∙ ap (λ k. starts_after (n + 1) xs ++ starts_after k ys) (plus_suc n (length xs)))

-- ---- as many as line feeds, and within the text

feeds : (n : ℕ) (cs : List ℕ) → length (starts_after n cs) ≡ count_by (λ c. c == 10) cs
feeds n [] = refl
feeds n (c ∷ cs) =
    by_feed (c == 10) (n + 1) (starts_after (n + 1) cs) ∙ (ap (λ k. cond (c == 10) 1 0 + k) (feeds (n + 1) cs)
    ∙ sym (sum_by-cons (λ (x : ℕ). cond (x == 10) 1 0) c cs))
  where
    by_feed : (b : Bool) (x : ℕ) (ss : List ℕ) → length (cond b (x ∷ ss) ss) ≡ cond b 1 0 + length ss
    by_feed true x ss = omega arith
    by_feed false x ss = omega arith

bounded : (n : ℕ) (cs : List ℕ) → AllByRecursion (λ s. s ≤ n + length cs) (starts_after n cs)
bounded n [] = tt
bounded n (c ∷ cs) =
    by_feed (c == 10) (n + 1) (n + suc (length cs)) (starts_after (n + 1) cs) (omega arith)
    (subst (λ k. AllByRecursion (λ s. s ≤ k) (starts_after (n + 1) cs)) (plus_suc n (length cs)) (bounded (n + 1) cs))
  where
    by_feed : (b : Bool) (x k : ℕ) (ss : List ℕ) → x ≤ k → AllByRecursion (λ s. s ≤ k) ss
        → AllByRecursion (λ s. s ≤ k) (cond b (x ∷ ss) ss)
    by_feed true x k ss l h = (l, h)
    by_feed false x k ss l h = h

-- ---- the last one

last_so : (P : ℕ → Type 0) (xs : List ℕ) (x : ℕ) → AllByRecursion P (xs ++ x ∷ []) → P x
last_so P [] x h = h.0
last_so P (y ∷ ys) x h = last_so P ys x h.1

next_is : (xs : List ℕ) (x : ℕ) (more : List ℕ) → slice_get (xs ++ x ∷ more) (length xs) ≡ Some x
next_is [] x more = refl
next_is (y ∷ ys) x more = next_is ys x more

single : (xs : List ℕ) → length xs ≡ 1 → (x : ℕ) × (xs ≡ x ∷ [])
single [] e = absurd (omega (arith, e))
single (x ∷ []) e = (x, refl)
single (x ∷ y ∷ ys) e = absurd (omega (arith, e))

-- where the last line begins, of which some text before has all beginnings but that one
last_line : (cs starts : List ℕ) (s : ℕ) → 0 ∷ starts_after 0 cs ≡ starts ++ s ∷ []
    → s ≡ (place_after cs).index - (place_after cs).column
last_line cs starts s table =
    let k = length cs in
    let first : 0 ≤ 0 + k = omega arith in
    let before : s ≤ 0 + k = last_so (λ x. x ≤ 0 + k) starts s
    (subst (AllByRecursion (λ x. x ≤ 0 + k)) table (first, bounded 0 cs)) in
    let size : length (starts ++ s ∷ []) ≤ length starts + 1 = omega (arith, length-append starts (s ∷ [])) in
    let on : IsOnLine (0 ∷ starts_after 0 cs) k (length starts) s = record {
      begins = ap (λ ss. slice_get ss (length starts)) table ∙ next_is starts s [];
      before = omega (arith, before);
      after = λ next e.
          absurd (none-some next (sym (slice_get_past (starts ++ s ∷ []) (length starts + 1) size)
          ∙ (ap (λ ss. slice_get ss (length starts + 1)) (sym table) ∙ e)));
    } in
    let here = line_place cs (0 ∷ starts_after 0 cs) k (length starts) s refl (le_refl k) on in
    let column : k - s ≡ (place_after cs).column = ap (λ (p : Place). p.column) here
    ∙ ap (λ xs. (place_after xs).column) (take_all k cs (le_refl k)) in
    omega (arith, before, column)

-- ---- from character j to character k

module _ (source starts : List ℕ) (j k : ℕ) (order : j ≤ k) (so_far : AreStarts starts source j) where
  abbrev pub between : List ℕ
  between = take (k - j) (drop j source)

  abbrev more : List ℕ
  more = starts_after (length (take j source)) between

  whole : 0 ∷ starts_after 0 (take k source) ≡ starts ++ more
  whole =
      let sum : k ≡ j + (k - j) = omega (arith, order) in
      let parts : take k source ≡ take j source ++ between = ap (λ n. take n source) sum ∙ take-add j (k - j) source in
      ap (λ cs. 0 ∷ starts_after 0 cs) parts
      ∙ (ap (λ ss. 0 ∷ ss) (after_append 0 (take j source) between
      ∙ ap (λ n. starts_after 0 (take j source) ++ starts_after n between) (none_plus (length (take j source))))
      ∙ ap (λ ss. ss ++ more) (sym so_far))

  counted : (place source k).line + 1 ≡ length starts + length more
  counted = omega (arith, ap length whole, feeds 0 (take k source), length-append starts more)

  pub no_line_more : (place source k).line < length starts → AreStarts starts source k
  no_line_more l =
      let none : more ≡ [] = nil_from_length more (omega (arith, counted, l)) in
      sym (whole ∙ (ap (λ m. starts ++ m) none ∙ append-nil starts))

  pub one_line_more : (new : List ℕ) → (place source k).line ≡ length starts
      → new ≡ starts ++ ((place source k).index - (place source k).column) ∷ [] → AreStarts new source k
  one_line_more new e pushed =
      let one = single more (omega (arith, counted, e)) in
      let table : 0 ∷ starts_after 0 (take k source) ≡ starts ++ one.0 ∷ [] = whole ∙ ap (λ m. starts ++ m) one.1 in
      pushed ∙ (ap (λ s. starts ++ s ∷ []) (sym (last_line (take k source) starts one.0 table)) ∙ sym table)

  pub lines_more : (new : List ℕ) (after : ℕ) → j ≤ length source
      → made_table new after ≡ fold past (made_table starts j) between → AreStarts new source k
  lines_more new after l e =
      ap (λ (t : Lines). t.starts) (e ∙ lines_on between starts j)
      ∙ (ap (λ n. starts ++ starts_after n between) (sym (length-take-le j source l)) ∙ sym whole)

-- the rest of the source is read
pub all_lines : (source starts : List ℕ) (k : ℕ) → k ≤ length source → AreStarts starts source k → (table : Lines)
    → table ≡ fold past (made_table starts k) (drop k source) → table ≡ lines_of source
all_lines source starts k l so_far table e =
    let rest = drop k source in
    let size : 0 + length (take k source) ≡ k = none_plus (length (take k source)) ∙ length-take-le k source l in
    let count : k + length rest ≡ length source = omega (arith, l, length-drop k source) in
    let parts : starts ++ starts_after k rest ≡ 0 ∷ starts_after 0 source =
    ap (λ ss. ss ++ starts_after k rest) so_far
    ∙ ap (λ ss. 0 ∷ ss) (ap (λ n. starts_after 0 (take k source) ++ starts_after n rest) (sym size)
    ∙ (sym (after_append 0 (take k source) rest) ∙ ap (starts_after 0) (take-append-drop k source))) in
    e ∙ (lines_on rest starts k ∙ ap₂ made_table parts count)

-- ---- the line of a place

with_last : (x : ℕ) (xs : List ℕ) → (front : List ℕ) × (last : ℕ) × (x ∷ xs ≡ front ++ last ∷ [])
with_last x [] = ([], x, refl)
with_last x (y ∷ ys) = let rest = with_last y ys in (x ∷ rest.0, rest.1, ap (λ l. x ∷ l) rest.2)

one_on : (xs : List ℕ) (x : ℕ) (more : List ℕ) → slice_get (xs ++ x ∷ more) (length xs + 1) ≡ slice_get more 0
one_on xs x more =
    ap (λ l. slice_get l (length xs + 1)) (sym (append_assoc xs (x ∷ []) more))
    ∙ (ap (slice_get ((xs ++ x ∷ []) ++ more)) (sym (length-append xs (x ∷ []))) ∙ past_all (xs ++ x ∷ []) more)
  where
    past_all : (ys zs : List ℕ) → slice_get (ys ++ zs) (length ys) ≡ slice_get zs 0
    past_all [] zs = refl
    past_all (y ∷ ys) zs = past_all ys zs

-- it begins where the place's column does
pub its_line : (source starts : List ℕ) (k : ℕ) → starts ≡ 0 ∷ starts_after 0 source → k ≤ length source
    → (start : ℕ) × IsOnLine starts k (place source k).line start
its_line source starts k table within =
    let cs = take k source in
    let rest = drop k source in
    let parts = with_last 0 (starts_after 0 cs) in
    let front = parts.0 in
    let start = parts.1 in
    let more = starts_after (0 + length cs) rest in
    let size : 0 + length cs ≡ k = none_plus (length cs) ∙ length-take-le k source within in
    let whole : starts ≡ front ++ start ∷ more =
    table
    ∙ (ap (λ xs. 0 ∷ starts_after 0 xs) (sym (take-append-drop k source)) ∙ (ap (λ ss. 0 ∷ ss) (after_append 0 cs rest)
    ∙ (ap (λ ss. ss ++ more) parts.2 ∙ append_assoc front (start ∷ []) more))) in
    let number : (place source k).line ≡ length front =
    omega (arith, ap length parts.2, feeds 0 cs, length-append front (start ∷ [])) in
    let before = last_line cs front start parts.2 in
    let index : (place_after cs).index ≡ k = place_index source k within in (
      start,
      record {
        begins = ap₂ slice_get whole number ∙ next_is front start more;
        before = omega (arith, before, index);
        after = λ next e. above next (ap (λ n. slice_get (starts_after n rest) 0) (sym size)
            ∙ (sym (one_on front start more) ∙ (ap₂ (λ ss n. slice_get ss (n + 1)) (sym whole) (sym number) ∙ e)));
      },
    )
  where
    above : (next : ℕ) → slice_get (starts_after k (drop k source)) 0 ≡ Some next → k < next
    above next e = omega (arith, first_after k (drop k source) next e)

-- a line of the place's number is that line
pub line_of_place : (source starts : List ℕ) (k : ℕ) (line : Line) → starts ≡ 0 ∷ starts_after 0 source → k ≤ length source
    → IsLine starts line → line.number ≡ (place source k).line → IsOnLine starts k line.number line.start
line_of_place source starts k line table within is number =
    let found = its_line source starts k table within in
    let l = (place source k).line in
    let there : slice_get starts l ≡ Some line.start = ap (slice_get starts) (sym number) ∙ is.begins in
    record {
      begins = is.begins;
      before = omega (
        arith,
        found.1.before,
        get_or_from_slice_get starts l line.start 0 there,
        get_or_from_slice_get starts l found.0 0 found.1.begins,
      );
      after = λ next e. found.1.after next (ap (λ n. slice_get starts (n + 1)) (sym number) ∙ e);
    }
