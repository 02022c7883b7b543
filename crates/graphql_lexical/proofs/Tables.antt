-- What the tables say is what scan misses.
use Rattle.std.proofs.Common.{◌≡◌, ℕ, suc, ◌+◌, ◌<◌, ◌⊎◌, inl, inr, Bool, false, eqb, not, ◌&&◌, List, [], ◌∷◌, ◌++◌, length, take, drop, Option, Some, None, Result, IsTrue, IsFalse, refl, sym, ap, ap₂, ◌∙◌, subst, arith, append-nil, take-append-drop}
use Rattle.std.proofs.lemmas.List.{length-take-le, drop_at}
use Rattle.std.proofs.lemmas.Bool.{cond-true, cond-false, ne_eqb}
use Rattle.std.proofs.lemmas.Bool.Decides.{nat_tests}
use Rattle.std.proofs.lemmas.Option.{none-some}
use Rattle.std.specs.Prelude.{option_map}
use Rattle.graphql_lexical.specs.Characters.{is_digit, is_line_end, is_source, is_plain, is_escape}
use Rattle.graphql_lexical.specs.Kinds.{Kind, Name, Float, Int, LexicalError, UnexpectedCharacter, UnterminatedString, UnknownEscapeSequence, String}
use Rattle.graphql_lexical.specs.Tokens.{Starts, IsZero, IsNumber, StartsNumber, Pieces, IsUnit, mark}
use Rattle.graphql_lexical.specs.device.Indexed.{LongestAt, counted, StringFailsAt, at_end, at_line_end, at_control, lone_backslash, wrong_escape, short_unicode, wrong_unicode, no_unicode, FailsAt, number_ends, number_stops, zero_goes_on, string_fails, dots_end, dots_stop, unknown, block_ends, block_stops}
use Rattle.graphql_lexical.specs.device.Machines.{reach, onward}
use Rattle.graphql_lexical.specs.device.Scan.{State, Start, Done, OneDot, TwoDots, InName, Minus, Zero, Digits, Point, Fraction, ExponentMark, ExponentSign, Exponent, InString, Backslash, NoHexDigit, OneHexDigit, HexDigitD, TwoHexDigits, ThreeHexDigits, step, Found, Missed, missed, stopped, after_zero, after_units, after_backslash, after_u, answer, scan, Quote, EmptyString, InBlock, Block, Closed, after_block}
use Rattle.graphql_lexical.proofs.Runs.{reach_on, Longest_same, Stops}
use Rattle.graphql_lexical.proofs.History.{IsRead, IsOpen}
use Rattle.graphql_lexical.proofs.Spelled.{accepts, accepts_spells, starts_from, IsStringState, quote_run, block_run}
use Rattle.graphql_lexical.proofs.Blocks.{control_stops as block_control_stops, IsOpenRun, units_run_open}
use Rattle.graphql_lexical.proofs.Readings.{Reached, reached, starts_longest, front_read, zero_state}
use Rattle.graphql_lexical.proofs.Units.{NoUnit, longest_no_unit, no_unit_scalar}
use Rattle.graphql_lexical.proofs.NumberFronts.{BeginsNumber, not_number, begins_some, number_starts, longest_number, spells_number, zero_begins, longer_begins}
use Rattle.graphql_lexical.proofs.Escapes.{u_short, u_wrong, u_none}
use Rattle.graphql_lexical.proofs.HexPlaces.{further, hex_place, hex_answer}

-- ---- numbers

open_no_number : (tail t : List ℕ) → IsOpen tail t → BeginsNumber t → ⊥
open_no_number tail t o b = not_number 34 (o.units ++ tail) t refl o.text_is b

number_answer : (q : State) (m : ℕ) (rest : List ℕ) → IsRead q (take m rest) → BeginsNumber (take m rest)
    → accepts q ≡ None → answer q m rest ≡ stopped m (drop m rest)
number_answer Start m rest r b a = absurd (subst BeginsNumber r b)
number_answer (Done k) m rest r b a = absurd (none-some k (sym a))
number_answer OneDot m rest r b a = absurd (not_number 46 [] (take m rest) refl r b)
number_answer TwoDots m rest r b a = absurd (not_number 46 (46 ∷ []) (take m rest) refl r b)
number_answer InName m rest r b a = absurd (none-some Name (sym a))
number_answer Minus m rest r b a = refl
number_answer Zero m rest r b a = absurd (none-some Int (sym a))
number_answer Digits m rest r b a = absurd (none-some Int (sym a))
number_answer Point m rest r b a = refl
number_answer Fraction m rest r b a = absurd (none-some Float (sym a))
number_answer ExponentMark m rest r b a = refl
number_answer ExponentSign m rest r b a = refl
number_answer Exponent m rest r b a = absurd (none-some Float (sym a))
number_answer Quote m rest r b a = absurd (not_number 34 [] (take m rest) refl r b)
number_answer EmptyString m rest r b a = absurd (none-some String (sym a))
number_answer InString m rest r b a = absurd (open_no_number [] (take m rest) r b)
number_answer Backslash m rest r b a = absurd (open_no_number (92 ∷ []) (take m rest) r b)
number_answer NoHexDigit m rest r b a = absurd (open_no_number (92 ∷ 117 ∷ []) (take m rest) r b)
number_answer OneHexDigit m rest r b a = absurd (open_no_number (92 ∷ 117 ∷ r.0 ∷ []) (take m rest) r.3 b)
number_answer HexDigitD m rest r b a = absurd (open_no_number (92 ∷ 117 ∷ r.0 ∷ []) (take m rest) r.2 b)
number_answer TwoHexDigits m rest r b a = absurd (open_no_number (92 ∷ 117 ∷ r.0 ∷ r.1 ∷ []) (take m rest) r.3 b)
number_answer ThreeHexDigits m rest r b a =
    absurd (open_no_number (92 ∷ 117 ∷ r.0 ∷ r.1 ∷ r.2 ∷ []) (take m rest) r.5 b)
number_answer (InBlock part) m rest r b a = absurd (not_number 34 (34 ∷ 34 ∷ r.0) (take m rest) refl r.1 b)

accepts_not : (o : Option Kind) → ((k : Kind) → o ≡ Some k → ⊥) → o ≡ None
accepts_not None n = refl
accepts_not (Some k) n = absurd (n k refl)

-- the steps end where the longest front that begins a number does
number_reached : (rest : List ℕ) (n m : ℕ) (q : State) → Reached rest m q → 0 < n → LongestAt StartsNumber rest n
    → BeginsNumber (take m rest) × (m ≡ n)
number_reached rest n m q h b l =
    let s = starts_longest rest m q h in
    let front = longer_begins rest n m b (s.most n l.within (number_starts (take n rest) l.holds)) l in
    (front, Longest_same StartsNumber rest m n (longest_number rest m front s) l)

number_stopped : (rest : List ℕ) (n m : ℕ) (q : State) → Reached rest m q → 0 < n
    → LongestAt StartsNumber rest n → (IsNumber (take n rest) → ⊥) → answer q m rest ≡ stopped n (drop n rest)
number_stopped rest n m q h b l none =
    let (front, same) = number_reached rest n m q h b l in
    let r = front_read rest m q h in
    let a : accepts q ≡ None = accepts_not (accepts q) (λ k e. none
    (subst (λ (x : ℕ). IsNumber (take x rest)) same
    (spells_number (take m rest) k front (accepts_spells q k (take m rest) e r)))) in
    number_answer q m rest r front a ∙ ap (λ (x : ℕ). stopped x (drop x rest)) same

zero_stopped : (rest : List ℕ) (n m c : ℕ) (after : List ℕ) (q : State) → Reached rest m q
    → LongestAt StartsNumber rest n → IsZero (take n rest) → drop n rest ≡ c ∷ after → IsTrue (is_digit c)
    → answer q m rest ≡ missed n (UnexpectedCharacter c)
zero_stopped rest n m c after q h l z d x =
    let same = (number_reached rest n m q h (begins_some n rest (zero_begins (take n rest) z)) l).1 in
    let is_zero : q ≡ Zero = zero_state (take m rest) q h.runs (subst (λ (k : ℕ). IsZero (take k rest)) (sym same) z) in
    ap (λ (p : State). answer p m rest) is_zero
    ∙ (ap (λ (k : ℕ). after_zero k rest (drop k rest)) same
    ∙ (ap (after_zero n rest) d ∙ cond-true (is_digit c) _ _ x))

-- ---- strings

line_end_is : (c : ℕ) → IsTrue (is_line_end c) → (c ≡ 10) ⊎ (c ≡ 13)
line_end_is c h = grind (arith, nat_tests)

line_end_stops : (c : ℕ) → IsTrue (is_line_end c) → step InString c ≡ None
line_end_stops c h = elim (line_end_is c h) [ inl e ↦ rw e | inr e ↦ rw e ]

line_end_quote : (c : ℕ) → IsTrue (is_line_end c) → step Quote c ≡ None
line_end_quote c h = elim (line_end_is c h) [ inl e ↦ rw e | inr e ↦ rw e ]

control_below : (c : ℕ) → IsFalse (is_source c) → c < 32
control_below c h = grind (arith, nat_tests)

control_no_end : (c : ℕ) → IsFalse (is_source c) → is_line_end c ≡ false
control_no_end c h = grind (arith, nat_tests)

not_plain : (s x y : Bool) → s ≡ false → ((s && x) && y) ≡ false
not_plain s x y e = rw e

control_stops : (c : ℕ) → IsFalse (is_source c) → (step InString c ≡ None) × (step Quote c ≡ None)
control_stops c h =
    let l = control_below c h in
    let p : is_plain c ≡ false = not_plain (is_source c) (not (is_line_end c)) (not (eqb c 34) && not (eqb c 92)) h in
    let a : eqb c 34 ≡ false = ne_eqb c 34 (λ e. omega arith) in
    let b : eqb c 92 ≡ false = ne_eqb c 92 (λ e. omega arith) in (
      cond-false (is_plain c) _ _ p ∙ (cond-false (eqb c 34) _ _ a ∙ cond-false (eqb c 92) _ _ b),
      cond-false (is_plain c) _ _ p ∙ (cond-false (eqb c 34) _ _ a ∙ cond-false (eqb c 92) _ _ b),
    )

wrong_stops : (c : ℕ) → is_escape c ≡ false → (c ≡ 117 → ⊥) → step Backslash c ≡ None
wrong_stops c h n = cond-false (is_escape c) _ _ h ∙ cond-false (eqb c 117) _ _ (ne_eqb c 117 n)

-- where the steps stop, when the next makes none
stop_reach : (q : State) (c : ℕ) (t : List ℕ) → step q c ≡ None → reach step q (c ∷ t) ≡ (0, q)
stop_reach q c t e = ap (onward q (λ p. reach step p t)) e

-- the answer after a front of p characters
abbrev AnswerAfter : List ℕ → List ℕ → ℕ → ℕ × State → Result Found Missed
AnswerAfter front after p r = answer r.1 (p + r.0) (front ++ after)

units_answer : (front after : List ℕ) (p : ℕ) → length front ≡ p
    → answer InString (p + 0) (front ++ after) ≡ after_units (p + 0) after
units_answer front after p e = ap (after_units (p + 0)) (further front after p 0 (p + 0) e refl)

backslash_answer : (front after : List ℕ) (p : ℕ) → length front ≡ p
    → answer Backslash (p + 1) (front ++ 92 ∷ after) ≡ after_backslash (p + 1) after
backslash_answer front after p e = ap (after_backslash (p + 1)) (further front (92 ∷ after) p 1 (p + 1) e refl)

unicode_answer : (front after : List ℕ) (p : ℕ) → length front ≡ p → NoUnit (92 ∷ 117 ∷ after)
    → AnswerAfter front (92 ∷ 117 ∷ after) p (reach step InString (92 ∷ 117 ∷ after)) ≡ after_u (suc p) after
unicode_answer front after p e none =
    let r = reach step NoHexDigit after in
    hex_answer r.1 (0 + r.0) p front after (p + suc (suc r.0)) (hex_place after (no_unit_scalar after none)) e
    (places p r.0)
  where
    places : (p k : ℕ) → p + suc (suc k) ≡ p + (2 + (0 + k))
    places p k = omega arith

one_more : (p : ℕ) → suc p ≡ p + 1
one_more p = omega arith

string_answer : (front after : List ℕ) (m : ℕ) (error : LexicalError) (p : ℕ) → length front ≡ p → NoUnit after
    → StringFailsAt after m error → AnswerAfter front after p (reach step InString after) ≡ missed (p + m) error
string_answer front _ _ _ p e none at_end = units_answer front [] p e
string_answer front _ _ _ p e none (at_line_end {c} {after} h) =
    ap (AnswerAfter front (c ∷ after) p) (stop_reach InString c after (line_end_stops c h))
    ∙ (units_answer front (c ∷ after) p e ∙ cond-true (is_line_end c) _ _ h)
string_answer front _ _ _ p e none (at_control {c} {after} h) =
    ap (AnswerAfter front (c ∷ after) p) (stop_reach InString c after (control_stops c h).0)
    ∙ (units_answer front (c ∷ after) p e ∙ cond-false (is_line_end c) _ _ (control_no_end c h))
string_answer front _ _ _ p e none lone_backslash = backslash_answer front [] p e
string_answer front _ _ _ p e none (wrong_escape {c} {after} h n) =
    ap (λ (r : ℕ × State). AnswerAfter front (92 ∷ c ∷ after) p (suc r.0, r.1))
    (stop_reach Backslash c after (wrong_stops c h n)) ∙ backslash_answer front (c ∷ after) p e
string_answer front _ _ _ p e none (short_unicode {after} l s) =
    unicode_answer front after p e none ∙ (u_short (suc p) after l s
    ∙ ap (λ (k : ℕ). missed k UnterminatedString) (places p (length after)))
  where
    places : (p k : ℕ) → suc (suc p) + k ≡ p + (2 + k)
    places p k = omega arith
string_answer front _ _ _ p e none (wrong_unicode {after} l s) =
    unicode_answer front after p e none ∙ (u_wrong (suc p) after l s
    ∙ ap (λ (k : ℕ). missed k (UnknownEscapeSequence (92 ∷ 117 ∷ take (counted after) after))) (one_more p))
string_answer front _ _ _ p e none (no_unicode {c} {after} z) =
    unicode_answer front (c ∷ after) p e none
    ∙ (u_none (suc p) c after z ∙ ap (λ (k : ℕ). missed k (UnknownEscapeSequence (92 ∷ 117 ∷ c ∷ []))) (one_more p))

-- after a quote alone the answer is that after a quote and units
quote_answer : (front after : List ℕ) (m : ℕ) (error : LexicalError) (p : ℕ) (q : State) → IsStringState q
    → StringFailsAt after m error → AnswerAfter front after p (reach step q after)
    ≡ AnswerAfter front after p (reach step InString after)
quote_answer front after m error p q (inr e) f = ap (λ (x : State). AnswerAfter front after p (reach step x after)) e
quote_answer front after m error p q (inl e) f =
    ap (λ (x : State). AnswerAfter front after p (reach step x after)) e ∙ same after m error f
  where
    both_stop : (c : ℕ) (after : List ℕ) → step Quote c ≡ None → step InString c ≡ None
        → AnswerAfter front (c ∷ after) p (reach step Quote (c ∷ after))
        ≡ AnswerAfter front (c ∷ after) p (reach step InString (c ∷ after))
    both_stop c after a b = ap (AnswerAfter front (c ∷ after) p) (stop_reach Quote c after a)
        ∙ sym (ap (AnswerAfter front (c ∷ after) p) (stop_reach InString c after b))

    same : (after : List ℕ) (m : ℕ) (error : LexicalError) → StringFailsAt after m error
        → AnswerAfter front after p (reach step Quote after) ≡ AnswerAfter front after p (reach step InString after)
    same _ _ _ at_end = refl
    same _ _ _ (at_line_end {c} {after} h) = both_stop c after (line_end_quote c h) (line_end_stops c h)
    same _ _ _ (at_control {c} {after} h) = let s = control_stops c h in both_stop c after s.1 s.0
    same _ _ _ lone_backslash = refl
    same _ _ _ (wrong_escape {c} {after} h n) = refl
    same _ _ _ (short_unicode {after} l s) = refl
    same _ _ _ (wrong_unicode {after} l s) = refl
    same _ _ _ (no_unicode {c} {after} z) = refl

string_scan : (more : List ℕ) (k m : ℕ) (error : LexicalError) → LongestAt (Pieces IsUnit) more k
    → StringFailsAt (drop k more) m error → scan (34 ∷ more) ≡ missed (suc k + m) error
string_scan more k m error l f =
    let front : List ℕ = 34 ∷ take k more in
    let after : List ℕ = drop k more in
    let whole : front ++ after ≡ 34 ∷ more = ap (λ (x : List ℕ). 34 ∷ x) (take-append-drop k more) in
    let size : length front ≡ suc k = ap suc (length-take-le k more l.within) in
    let goes = quote_run (take k more) l.holds in
    let r = reach_on step Start goes.0 front after goes.1 in
    let answered = string_answer front after m error (suc k) size (longest_no_unit more k l) f in
    sym (ap scan whole) ∙ (ap₂ (λ (n : ℕ) (q : State). answer q n (front ++ after))
    (r.0 ∙ ap (λ (n : ℕ). n + (reach step goes.0 after).0) size) r.1
    ∙ (quote_answer front after m error (suc k) goes.0 goes.2 f ∙ answered))

-- ---- block strings

block_answer : (q : Block) (n : ℕ) (rest : List ℕ) → (q ≡ Closed → ⊥)
    → answer (InBlock q) n rest ≡ after_block n (drop n rest)
block_answer Closed n rest a = absurd (a refl)
block_answer _ n rest a = refl

stays : (q : State) (after : List ℕ) → Stops step q after → reach step q after ≡ (0, q)
stays q [] s = refl
stays q (c ∷ after) s = stop_reach q c after s

block_scan : (units after : List ℕ) (o : IsOpenRun units) → Stops step (InBlock o.part) after
    → scan (mark ++ (units ++ after)) ≡ after_block (3 + length units) after
block_scan units after o s =
    let r = reach_on step Start (InBlock o.part) (mark ++ units) after (block_run o.part units o.runs) in
    let z = stays (InBlock o.part) after s in
    let size : (reach step Start (mark ++ (units ++ after))).0
    ≡ 3 + length units = r.0 ∙ (ap (λ (x : ℕ × State). length (mark ++ units) + x.0) z ∙ no_more (length units)) in
    ap₂ (λ (n : ℕ) (q : State). answer q n (mark ++ (units ++ after))) size (r.1 ∙ ap (λ (x : ℕ × State). x.1) z)
    ∙ (block_answer o.part (3 + length units) (mark ++ (units ++ after)) o.going
    ∙ ap (after_block (3 + length units)) (drop_at (mark ++ units) after (3 + length units) (three (length units))))
  where
    no_more : (k : ℕ) → suc (suc (suc k)) + 0 ≡ 3 + k
    no_more k = omega arith

    three : (k : ℕ) → suc (suc (suc k)) ≡ 3 + k
    three k = omega arith

-- ---- all of them

unknown_stops : (c : ℕ) → (Starts (c ∷ []) → ⊥) → step Start c ≡ None
unknown_stops c n = by_step (step Start c) refl
  where
    by_step : (o : Option State) → step Start c ≡ o → o ≡ None
    by_step None e = refl
    by_step (Some p) e = absurd (n (starts_from (c ∷ []) p (rw e)))

one_dot : (c : ℕ) (after : List ℕ) → (c ≡ 46 → ⊥) → scan (46 ∷ c ∷ after) ≡ missed 0 (UnexpectedCharacter 46)
one_dot c after n =
    ap (λ (r : ℕ × State). answer r.1 (suc r.0) (46 ∷ c ∷ after))
    (stop_reach OneDot c after (cond-false (eqb c 46) _ _ (ne_eqb c 46 n)))

two_dots : (c : ℕ) (after : List ℕ) → (c ≡ 46 → ⊥) → scan (46 ∷ 46 ∷ c ∷ after) ≡ missed 0 (UnexpectedCharacter 46)
two_dots c after n =
    ap (λ (r : ℕ × State). answer r.1 (suc (suc r.0)) (46 ∷ 46 ∷ c ∷ after))
    (stop_reach TwoDots c after (cond-false (eqb c 46) _ _ (ne_eqb c 46 n)))

pub fails_scan : (rest : List ℕ) (n : ℕ) (error : LexicalError) → FailsAt rest n error → scan rest ≡ missed n error
fails_scan _ _ _ (number_ends {rest} {n} b l none d) =
    let r = reach step Start rest in
    number_stopped rest n r.0 r.1 (reached rest) b l none ∙ ap (stopped n) d
fails_scan _ _ _ (number_stops {rest} {n} b l none d) =
    let r = reach step Start rest in
    number_stopped rest n r.0 r.1 (reached rest) b l none ∙ ap (stopped n) d
fails_scan _ _ _ (zero_goes_on {rest} {n} {c} {after} l z d x) =
    let r = reach step Start rest in
    zero_stopped rest n r.0 c after r.1 (reached rest) l z d x
fails_scan _ _ _ (string_fails {more} {k} {m} {error} l f) = string_scan more k m error l f
fails_scan _ _ _ (block_ends {units} h) =
    ap (λ (x : List ℕ). scan (mark ++ x)) (sym (append-nil units)) ∙ block_scan units [] (units_run_open units [] h) tt
fails_scan _ _ _ (block_stops {c} {units} {after} h x) =
    let o = units_run_open units (c ∷ after) h in
    block_scan units (c ∷ after) o (ap (option_map InBlock) (block_control_stops o.part c x))
fails_scan _ _ _ (dots_end (inl e)) = rw e
fails_scan _ _ _ (dots_end (inr e)) = rw e
fails_scan _ _ _ (dots_stop c dots after (inl e) n) = rw e (one_dot c after n)
fails_scan _ _ _ (dots_stop c dots after (inr e) n) = rw e (two_dots c after n)
fails_scan _ _ _ (unknown {c} {after} n) =
    ap (λ (r : ℕ × State). answer r.1 r.0 (c ∷ after)) (stop_reach Start c after (unknown_stops c n))
