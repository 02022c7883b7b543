-- Tables of the beginnings of lines.
use Rattle.std.proofs.Common.{◌≡◌, ℕ, zero, suc, ◌+◌, ◌-◌, ◌<◌, ◌≤◌, Bool, true, false, cond, ◌==◌, List, [], ◌∷◌, ◌++◌, length, take, refl, sym, ap, ap₂, ◌∙◌, subst, arith, Some, None, append-nil, append_assoc, add-one, get_or}
use Rattle.std.specs.Prelude.{slice_get}
use Rattle.std.specs.List.{fold}
use Rattle.std.proofs.lemmas.Bool.{le-leb}
use Rattle.std.proofs.lemmas.Option.{none-some, get_or_from_slice_get}
use Rattle.graphql_lexical.specs.Place.{Place, place, past_character, next_line, next_column}
use Rattle.juniper_tokens.specs.declared.lexer.run.Run.TheVariants as run
use Rattle.juniper_tokens.specs.device.ByteRuns.{is_inner}
use Rattle.juniper_tokens.specs.device.Walks.{run_test, each_machine}
use Rattle.juniper_tokens.specs.declared.line.Line.{Line}
use Rattle.juniper_tokens.specs.device.LineSteps.{made_table, longer, one_line, past, IsLine, IsBefore}
use Rattle.juniper_tokens.specs.LineTables.{Lines, starts_after, lines_of, IsTable, place_within, AscendFrom, StartLines, IsOnLine}
use Rattle.juniper_tokens.proofs.LineWalks.{no_feed_in_line, no_feed_past_ascii}
use Rattle.juniper_tokens.proofs.Places.{place_fold}
use Rattle.juniper_tokens.proofs.RunWalks.{plus_plus}

-- ---- the table ascends

ascend_weaker : (j k : ℕ) (ss : List ℕ) → j ≤ k → AscendFrom k ss → AscendFrom j ss
ascend_weaker j k [] l h = tt
ascend_weaker j k (s ∷ ss) l h = (omega (arith, l, h.0), h.1)

after_feed : (b : Bool) (k : ℕ) (ss : List ℕ) → AscendFrom (k + 1) ss → AscendFrom k (cond b ((k + 1) ∷ ss) ss)
after_feed true k ss h = (omega arith, h)
after_feed false k ss h = ascend_weaker k (k + 1) ss (omega arith) h

after_ascend : (k : ℕ) (cs : List ℕ) → AscendFrom k (starts_after k cs)
after_ascend k [] = tt
after_ascend k (c ∷ cs) = after_feed (c == 10) k _ (after_ascend (k + 1) cs)

pub lines_start : (source : List ℕ) → StartLines (0 ∷ starts_after 0 source)
lines_start source = (refl, after_ascend 0 source)

pub table_starts : (table : Lines) → IsTable table → StartLines table.starts
table_starts table h = subst StartLines (sym (ap (λ (t : Lines). t.starts) h.is)) (lines_start h.source)

plus_none : (k : ℕ) → k + 0 ≡ k
plus_none k = omega arith

plus_suc : (a b : ℕ) → (a + 1) + b ≡ a + suc b
plus_suc a b = omega arith

-- ---- a line's number is at most the index where it begins

ascend_above : (k : ℕ) (ss : List ℕ) (l s : ℕ) → AscendFrom k ss → slice_get ss l ≡ Some s → k + l + 1 ≤ s
ascend_above k [] l s h e = absurd (none-some s e)
ascend_above k (x ∷ ss) zero s h e = omega (arith, h.0, get_or_from_slice_get (x ∷ ss) 0 s 0 e)
ascend_above k (x ∷ ss) (suc l) s h e = omega (arith, h.0, ascend_above x ss l s h.1 e)

-- the first line that begins after these characters
pub first_after : (k : ℕ) (cs : List ℕ) (s : ℕ) → slice_get (starts_after k cs) 0 ≡ Some s → k < s
first_after k cs s e = omega (arith, ascend_above k (starts_after k cs) 0 s (after_ascend k cs) e)

pub number_below : (starts : List ℕ) (l s : ℕ) → StartLines starts → slice_get starts l ≡ Some s → l ≤ s
number_below [] l s h e = absurd h
number_below (x ∷ ss) zero s h e = omega arith
number_below (x ∷ ss) (suc l) s h e = omega (arith, h.0, ascend_above x ss l s h.1 e)

-- ---- the line that is found gives the place

abbrev made : ℕ → ℕ → ℕ → Place
made i l c = record { index = i; line = l; column = c }

same_made : (i j l m c d : ℕ) → i ≡ j → l ≡ m → c ≡ d → made i l c ≡ made j m d
same_made i j l m c d e f g = ap (λ x. made x l c) e ∙ (ap (λ x. made j x c) f ∙ ap (λ x. made j m x) g)

-- From place i on, whose line l begins at s, the line that is found for the character k further gives its place.
abbrev Found : (i s l c : ℕ) (cs : List ℕ) (k : ℕ) → Type 0
Found i s l c cs k = (j t : ℕ) → slice_get (s ∷ starts_after i cs) j ≡ Some t → t ≤ i + k
    → ((next : ℕ) → slice_get (s ∷ starts_after i cs) (suc j) ≡ Some next → i + k < next)
    → fold past_character (made i l c) (take k cs) ≡ made (i + k) (l + j) ((i + k) - t)

found_feed : (b : Bool) (i s l c : ℕ) (cs : List ℕ) (k : ℕ) → Found (i + 1) (i + 1) (l + 1) 0 cs k
    → Found (i + 1) s l (c + 1) cs k → (j t : ℕ)
    → slice_get (s ∷ cond b ((i + 1) ∷ starts_after (i + 1) cs) (starts_after (i + 1) cs)) j ≡ Some t → t ≤ i + suc k
    → ((next : ℕ) → slice_get (s ∷ cond b ((i + 1) ∷ starts_after (i + 1) cs) (starts_after (i + 1) cs)) (suc j)
    ≡ Some next → i + suc k < next) → fold past_character (cond b (next_line (made i l c)) (next_column (made i l c)))
    (take k cs) ≡ made (i + suc k) (l + j) ((i + suc k) - t)
found_feed true i s l c cs k f g zero t e m n = absurd (omega (arith, n (i + 1) refl))
found_feed true i s l c cs k f g (suc j) t e m n =
    f j t e (omega (arith, m)) (λ next h. omega (arith, n next h))
    ∙ same_made _ _ _ _ _ _ (plus_suc i k) (plus_suc l j) (ap (λ x. x - t) (plus_suc i k))
found_feed false i s l c cs k f g j t e m n =
    g j t e (omega (arith, m)) (λ next h. omega (arith, n next h))
    ∙ same_made _ _ _ _ _ _ (plus_suc i k) refl (ap (λ x. x - t) (plus_suc i k))

place_found : (i s l c : ℕ) (cs : List ℕ) (k : ℕ) → s + c ≡ i → k ≤ length cs → Found i s l c cs k
place_found i s l c cs zero a w zero t e m n =
    same_made _ _ _ _ _ _ (sym (plus_none i)) (sym (plus_none l))
    (omega (arith, a, get_or_from_slice_get (s ∷ starts_after i cs) 0 t 0 e))
place_found i s l c cs zero a w (suc j) t e m n =
    absurd (omega (arith, m, ascend_above i (starts_after i cs) j t (after_ascend i cs) e))
place_found i s l c [] (suc k) a w j t e m n = absurd (omega (arith, w))
place_found i s l c (x ∷ cs) (suc k) a w j t e m n =
    found_feed (x == 10) i s l c cs k (place_found (i + 1) (i + 1) (l + 1) 0 cs k (omega arith) (omega (arith, w)))
    (place_found (i + 1) s l (c + 1) cs k (omega (arith, a)) (omega (arith, w))) j t e m n

none_plus : (k : ℕ) → 0 + k ≡ k
none_plus k = omega arith

pub line_place : (source starts : List ℕ) (k l start : ℕ) → starts ≡ 0 ∷ starts_after 0 source → k ≤ length source
    → IsOnLine starts k l start → made k l (k - start) ≡ place source k
line_place source starts k l start e w h =
    let begins : slice_get (0 ∷ starts_after 0 source) l ≡ Some start = ap (λ ss. slice_get ss l) (sym e) ∙ h.begins in
    let after : (next : ℕ) → slice_get (0 ∷ starts_after 0 source) (suc l) ≡ Some next
    → k < next = λ next q. h.after next (ap (λ ss. slice_get ss (l + 1)) e
    ∙ (ap (slice_get (0 ∷ starts_after 0 source)) (add-one l) ∙ q)) in
    let found = place_found 0 0 0 0 source k refl w l start begins (omega (arith, h.before))
    (λ next q. omega (arith, after next q)) in
    sym (found ∙ same_made _ _ _ _ _ _ (none_plus k) (none_plus l) (ap (λ x. x - start) (none_plus k)))
    ∙ place_fold [] (take k source)

pub counted_within : (source : List ℕ) (table : Lines) (k : ℕ) → table ≡ lines_of source → k ≤ table.count
    → k ≤ length source
counted_within source table k e w = subst (λ (t : Lines). k ≤ t.count) e w

pub place_some : (source : List ℕ) (k : ℕ) (p : Place) → k ≤ length source → p ≡ place source k
    → Some p ≡ place_within source k
place_some source k p w e = ap Some e ∙ ap (λ b. cond b (Some (place source k)) None) (sym (le-leb k (length source) w))

-- ---- the search

-- the line is neither before low nor at or after high
pub record Narrowed (starts : List ℕ) (k low high : ℕ) : Type 0 where
  pub order : low < high
  pub within : high ≤ length starts
  pub before : get_or starts low 0 ≤ k
  pub after : IsBefore starts k high

pub line_found : (starts : List ℕ) (k low high : ℕ) (line : Line) → Narrowed starts k low high → high ≤ low + 1
    → IsLine starts line → line.number ≡ low → IsOnLine starts k line.number line.start
line_found starts k low high line h one is number =
    let last : line.number + 1 ≡ high = omega (arith, one, h.order, number) in
    let there : slice_get starts low ≡ Some line.start = ap (slice_get starts) (sym number) ∙ is.begins in
    record {
      begins = is.begins;
      before = omega (arith, h.before, get_or_from_slice_get starts low line.start 0 there);
      after = λ next e. h.after next (ap (slice_get starts) (sym last) ∙ e);
    }

-- ---- on a line that is known

-- ---- the lines after each character

pub no_longer : (t : Lines) → longer 0 t ≡ t
no_longer t = ap (λ n. made_table t.starts n) (plus_none t.count)

pub longer_more : (t : Lines) (k c : ℕ) → run_test run.Line c ≡ true → past (longer k t) c ≡ longer (k + 1) t
longer_more t k c e =
    ap (λ b. cond b (one_line (longer k t)) (longer 1 (longer k t))) (no_feed_in_line c e)
    ∙ ap (λ n. made_table t.starts n) (plus_plus t.count k 1)

pub past_alike : (t : Lines) (c d : ℕ) → 128 ≤ c → 128 ≤ d → past t c ≡ past t d
past_alike t c d l m =
    ap (λ b. cond b (one_line t) (longer 1 t)) (no_feed_past_ascii c l ∙ sym (no_feed_past_ascii d m))

pub past_other : (t : Lines) (b : ℕ) → is_inner b ≡ false → (b == 10) ≡ false
    → each_machine past (tt, t) b ≡ Some (tt, longer 1 t)
past_other t b e f = rw (e, f) refl

-- the lines after more characters
pub lines_on : (cs starts : List ℕ) (n : ℕ)
    → fold past (made_table starts n) cs ≡ made_table (starts ++ starts_after n cs) (n + length cs)
lines_on [] ss n = ap₂ made_table (sym (append-nil ss)) (sym (plus_none n))
lines_on (c ∷ cs) ss n = by_feed (c == 10) ss cs n (λ ts. lines_on cs ts (n + 1))
  where
    longer_by : (n : ℕ) (cs : List ℕ) → (n + 1) + length cs ≡ n + suc (length cs)
    longer_by n cs = omega arith

    by_feed : (b : Bool) (ss rest : List ℕ) (n : ℕ)
        → ((ss : List ℕ) → fold past (made_table ss (n + 1)) rest
        ≡ made_table (ss ++ starts_after (n + 1) rest) ((n + 1) + length rest))
        → fold past (cond b (made_table (ss ++ (n + 1) ∷ []) (n + 1)) (made_table ss (n + 1))) rest
        ≡ made_table (ss ++ cond b ((n + 1) ∷ starts_after (n + 1) rest) (starts_after (n + 1) rest)) (n + suc (length rest))
    by_feed true ss rest n h =
        h (ss ++ (n + 1) ∷ [])
        ∙ ap₂ made_table (append_assoc ss ((n + 1) ∷ []) (starts_after (n + 1) rest)) (longer_by n rest)
    by_feed false ss rest n h = h ss ∙ ap (made_table (ss ++ starts_after (n + 1) rest)) (longer_by n rest)
