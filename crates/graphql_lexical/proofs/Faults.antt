-- What scan misses is a fault of the tables.
use Rattle.std.proofs.Common.{◌≡◌, ℕ, zero, suc, ◌+◌, ◌-◌, ◌≤◌, inl, inr, Bool, true, false, cond, eqb, not, ◌&&◌, List, [], ◌∷◌, ◌++◌, length, take, drop, Option, Some, None, Err, IsTrue, refl, sym, ap, ◌∙◌, subst, arith, length-append, append-nil, append_assoc, take-append-drop}
use Rattle.std.proofs.lemmas.List.{take_at, drop_at, length-take-le}
use Rattle.std.proofs.lemmas.Bool.{eqb-false, cond-false}
use Rattle.std.proofs.lemmas.Option.{none-some}
use Rattle.std.specs.Prelude.{option_map}
use Rattle.graphql_lexical.specs.Characters.{is_digit, is_line_end, is_source, is_plain, is_escape}
use Rattle.graphql_lexical.specs.Kinds.{Kind, Name, String, Float, Int, Ellipsis, LexicalError, UnknownCharacter, UnexpectedCharacter, UnterminatedString, UnknownCharacterInString, UnknownEscapeSequence, UnexpectedEndOfFile, BlockString}
use Rattle.graphql_lexical.specs.Tokens.{IsZero, IsNumber, Pieces, IsUnit, mark}
use Rattle.graphql_lexical.specs.device.Indexed.{StringFailsAt, at_end, at_line_end, at_control, lone_backslash, wrong_escape, FailsAt, number_ends, number_stops, zero_goes_on, string_fails, dots_end, dots_stop, unknown, block_ends, block_stops}
use Rattle.graphql_lexical.specs.device.Machines.{reach}
use Rattle.graphql_lexical.specs.device.Scan.{State, Start, Done, OneDot, TwoDots, InName, Minus, Zero, Digits, Point, Fraction, ExponentMark, ExponentSign, Exponent, InString, Backslash, NoHexDigit, OneHexDigit, HexDigitD, TwoHexDigits, ThreeHexDigits, step, Missed, found, missed, stopped, after_zero, after_dots, after_units, after_backslash, after_u, answer, scan, Quote, EmptyString, InBlock, Block, Inside, Closed, block_step, after_block}
use Rattle.graphql_lexical.proofs.Runs.{Stops, run}
use Rattle.graphql_lexical.proofs.History.{IsRead, IsOpen, IsBase, cond_none, open_none}
use Rattle.graphql_lexical.proofs.Blocks.{block_open, stops_at}
use Rattle.graphql_lexical.proofs.Spelled.{accepts, starts_run}
use Rattle.graphql_lexical.proofs.Readings.{Reached, reached, starts_longest, front_read, spells_accepts}
use Rattle.graphql_lexical.proofs.Units.{NoUnit, NoScalar, units_longest, units_stop, backslash_stop, no_scalar_unit, hex0_stop, hex1_stop, hexd_stop, hex2_stop, hex3_stop}
use Rattle.graphql_lexical.proofs.NumberFronts.{BeginsNumber, begins_some, begins_append, longest_number, zero_begins, integer_begins, base_begins}
use Rattle.graphql_lexical.proofs.Escapes.{same_Err, u_fails}

abbrev pub FailsAs : List ℕ → Missed → Type 0
FailsAs rest m = FailsAt rest m.at m.error

pub missed_as : (rest : List ℕ) (n : ℕ) (e : LexicalError) (m : Missed) → missed n e ≡ Err m → FailsAt rest n e
    → FailsAs rest m
missed_as rest n e m h f = subst (FailsAs rest) (same_Err (record { at = n; error = e }) m h) f

-- ---- numbers

no_number : (n : ℕ) (rest : List ℕ) (q : State) → Reached rest n q → accepts q ≡ None → IsNumber (take n rest) → ⊥
no_number n rest q h a (inl x) = none-some Int (sym a ∙ spells_accepts (take n rest) q Int h.runs x)
no_number n rest q h a (inr x) = none-some Float (sym a ∙ spells_accepts (take n rest) q Float h.runs x)

pub number_missed : (n : ℕ) (rest b : List ℕ) (q : State) (m : Missed) → Reached rest n q → drop n rest ≡ b
    → accepts q ≡ None → BeginsNumber (take n rest) → stopped n b ≡ Err m → FailsAs rest m
number_missed n rest [] q m h d a b e =
    missed_as rest n UnexpectedEndOfFile m e
    (number_ends (begins_some n rest b) (longest_number rest n b (starts_longest rest n q h))
    (no_number n rest q h a) d)
number_missed n rest (c ∷ after) q m h d a b e =
    missed_as rest n (UnexpectedCharacter c) m e
    (number_stops (begins_some n rest b) (longest_number rest n b (starts_longest rest n q h))
    (no_number n rest q h a) d)

not_missed : (n : ℕ) (kind : Kind) (rest : List ℕ) (m : Missed) → found n kind rest ≡ Err m → ⊥
not_missed n kind rest m e = cc

zero_goes : (n c : ℕ) (rest after : List ℕ) (m : Missed) (b : Bool) → is_digit c ≡ b
    → cond b (missed n (UnexpectedCharacter c)) (found n Int rest) ≡ Err m
    → IsTrue (is_digit c) × (missed n (UnexpectedCharacter c) ≡ Err m)
zero_goes n c rest after m true d e = (d, e)
zero_goes n c rest after m false d e = absurd (not_missed n Int rest m e)

zero_missed : (n : ℕ) (rest b : List ℕ) (m : Missed) → Reached rest n Zero → drop n rest ≡ b → IsZero (take n rest)
    → after_zero n rest b ≡ Err m → FailsAs rest m
zero_missed n rest [] m h d z e = absurd (not_missed n Int rest m e)
zero_missed n rest (c ∷ after) m h d z e =
    let g = zero_goes n c rest after m (is_digit c) refl e in
    let b = zero_begins (take n rest) z in
    missed_as rest n (UnexpectedCharacter c) m g.1
    (zero_goes_on (longest_number rest n b (starts_longest rest n Zero h)) z d g.0)

-- ---- strings

-- the rest, as a quote, units, and what follows them
record Opened (tail : List ℕ) (n : ℕ) (rest : List ℕ) : Type 0 where
  units : List ℕ
  size : n ≡ suc (length units + length tail)
  rest_is : rest ≡ 34 ∷ (units ++ (tail ++ drop n rest))
  made : Pieces IsUnit units

opened : (tail : List ℕ) (n : ℕ) (rest : List ℕ) → n ≤ length rest → IsOpen tail (take n rest) → Opened tail n rest
opened tail n rest l h = record {
  units = h.units;
  size = omega (arith, length-take-le n rest l, ap length h.text_is, length-append h.units tail);
  rest_is = sym (take-append-drop n rest)
      ∙ (ap (λ (x : List ℕ). x ++ drop n rest) h.text_is
      ∙ ap (λ (x : List ℕ). 34 ∷ x) (append_assoc h.units tail (drop n rest)));
  made = h.made;
}

string_from : (units after : List ℕ) (m : ℕ) (e : LexicalError) → Pieces IsUnit units → NoUnit after → StringFailsAt after m e
    → FailsAt (34 ∷ (units ++ after)) (suc (length units) + m) e
string_from units after m e made none f =
    let k = length units in
    let t : take k (units ++ after) ≡ units = take_at units after k refl in
    let d : drop k (units ++ after) ≡ after = drop_at units after k refl in
    string_fails (units_longest (units ++ after) k (omega (arith, length-append units after))
    (subst (Pieces IsUnit) (sym t) made) (subst NoUnit (sym d) none)) (subst (λ (x : List ℕ). StringFailsAt x m e) (sym d) f)

string_missed : (tail : List ℕ) (n : ℕ) (rest : List ℕ) (q : State) (m : ℕ) (e : LexicalError) → Reached rest n q
    → IsOpen tail (take n rest) → NoUnit (tail ++ drop n rest) → StringFailsAt (tail ++ drop n rest) m e → (at : ℕ)
    → at + length tail ≡ n + m → FailsAt rest at e
string_missed tail n rest q m e h o none f at same =
    let p = opened tail n rest h.within o in
    let s = string_from p.units (tail ++ drop n rest) m e p.made none f in
    let place : suc (length p.units) + m ≡ at = omega (arith, p.size) in
    subst (λ (x : List ℕ). FailsAt x at e) (sym p.rest_is)
    (subst (λ (k : ℕ). FailsAt (34 ∷ (p.units ++ (tail ++ drop n rest))) k e) place s)

-- what stops a unit
control_bools : (s l q b : Bool) → ((s && not l) && (not q && not b)) ≡ false → l ≡ false → q ≡ false → b ≡ false
    → s ≡ false
control_bools false l q b h x y z = refl
control_bools true l q b h x y z = rw (x, y, z) at h

control_is : (c : ℕ) → step InString c ≡ None → is_line_end c ≡ false → is_source c ≡ false
control_is c s l =
    let a = cond_none (is_plain c) InString _ s in
    let b = cond_none (eqb c 34) (Done String) _ a.1 in
    let d = cond_none (eqb c 92) Backslash None b.1 in
    control_bools (is_source c) (is_line_end c) (eqb c 34) (eqb c 92) a.0 l b.0 d.0

units_cond : (n c : ℕ) (after : List ℕ) (m : Missed) (b : Bool) → is_line_end c ≡ b → step InString c ≡ None
    → cond b (missed n UnterminatedString) (missed n (UnknownCharacterInString c)) ≡ Err m
    → (m.at ≡ n) × StringFailsAt (c ∷ after) 0 m.error
units_cond n c after m true l s e = subst (λ (x : Missed). (x.at ≡ n) × StringFailsAt (c ∷ after) 0 x.error)
    (same_Err (record { at = n; error = UnterminatedString }) m e) (refl, at_line_end l)
units_cond n c after m false l s e = subst (λ (x : Missed). (x.at ≡ n) × StringFailsAt (c ∷ after) 0 x.error)
    (same_Err (record { at = n; error = UnknownCharacterInString c }) m e) (refl, at_control (control_is c s l))

units_fails : (n : ℕ) (b : List ℕ) (m : Missed) → Stops step InString b → after_units n b ≡ Err m
    → (m.at ≡ n) × StringFailsAt b 0 m.error
units_fails n [] m s e = subst (λ (x : Missed). (x.at ≡ n) × StringFailsAt [] 0 x.error)
    (same_Err (record { at = n; error = UnterminatedString }) m e) (refl, at_end)
units_fails n (c ∷ after) m s e = units_cond n c after m (is_line_end c) refl s e

-- a quote alone stops where a quote and units would
quote_stop : (b : List ℕ) → Stops step Quote b → Stops step InString b
quote_stop [] s = tt
quote_stop (c ∷ after) s =
    let a = cond_none (is_plain c) InString _ s in
    let b = cond_none (eqb c 34) EmptyString _ a.1 in
    let d = cond_none (eqb c 92) Backslash None b.1 in
    cond-false (is_plain c) _ _ a.0 ∙ (cond-false (eqb c 34) _ _ b.0 ∙ cond-false (eqb c 92) _ _ d.0)

backslash_fails : (n : ℕ) (b : List ℕ) (m : Missed) → Stops step Backslash b → after_backslash n b ≡ Err m
    → (m.at ≡ n) × StringFailsAt (92 ∷ b) 1 m.error
backslash_fails n [] m s e = subst (λ (x : Missed). (x.at ≡ n) × StringFailsAt (92 ∷ []) 1 x.error)
    (same_Err (record { at = n; error = UnterminatedString }) m e) (refl, lone_backslash)
backslash_fails n (c ∷ after) m s e =
    let a = cond_none (is_escape c) InString _ s in
    let b = cond_none (eqb c 117) NoHexDigit None a.1 in
    subst (λ (x : Missed). (x.at ≡ n) × StringFailsAt (92 ∷ c ∷ after) 1 x.error)
    (same_Err (record { at = n; error = UnknownEscapeSequence (92 ∷ c ∷ []) }) m e)
    (refl, wrong_escape a.0 (eqb-false c 117 b.0))

-- ---- dots

-- what follows a front, with its equation
dot_missed : (b : List ℕ) (m : Missed) → Stops step OneDot b → after_dots 1 b ≡ Err m → FailsAs (46 ∷ b) m
dot_missed [] m s e = missed_as (46 ∷ []) 1 UnexpectedEndOfFile m e (dots_end (inl refl))
dot_missed (c ∷ b) m s e = missed_as (46 ∷ c ∷ b) 0 (UnexpectedCharacter 46) m e
    (dots_stop c (46 ∷ []) b (inl refl) (eqb-false c 46 (cond_none (eqb c 46) TwoDots None s).0))

dots_missed : (b : List ℕ) (m : Missed) → Stops step TwoDots b → after_dots 2 b ≡ Err m → FailsAs (46 ∷ 46 ∷ b) m
dots_missed [] m s e = missed_as (46 ∷ 46 ∷ []) 2 UnexpectedEndOfFile m e (dots_end (inr refl))
dots_missed (c ∷ b) m s e = missed_as (46 ∷ 46 ∷ c ∷ b) 0 (UnexpectedCharacter 46) m e
    (dots_stop c (46 ∷ 46 ∷ []) b (inr refl) (eqb-false c 46 (cond_none (eqb c 46) (Done Ellipsis) None s).0))

front_is : (n : ℕ) (rest t : List ℕ) → n ≤ length rest → take n rest ≡ t → (rest ≡ t ++ drop n rest) × (n ≡ length t)
front_is n rest t l e = (
  sym (take-append-drop n rest) ∙ ap (λ (x : List ℕ). x ++ drop n rest) e,
  sym (length-take-le n rest l) ∙ ap length e,
)

-- ---- block strings

map_none : (o : Option Block) → option_map InBlock o ≡ None → o ≡ None
map_none None e = refl
map_none (Some q) e = absurd (none-some (InBlock q) (sym e))

block_from : (q : Block) (s b : List ℕ) (m : Missed) → (q ≡ Closed → ⊥) → run block_step Inside s ≡ Some q
    → Stops step (InBlock q) b → after_block (3 + length s) b ≡ Err m → FailsAs (mark ++ (s ++ b)) m
block_from q s [] m n r h e =
    missed_as (mark ++ (s ++ [])) (3 + length s) UnterminatedString m e
    (subst (λ (x : List ℕ). FailsAt (mark ++ x) (3 + length s) UnterminatedString) (sym (append-nil s))
    (block_ends (block_open q s [] n r tt)))
block_from q s (c ∷ b) m n r h e =
    let t = stops_at q c n (map_none (block_step q c) h) in
    missed_as (mark ++ (s ++ c ∷ b)) (3 + length s) (UnknownCharacterInString c) m e
    (block_stops (block_open q s (c ∷ b) n r t.0) t.1)

block_missed : (q : Block) (n : ℕ) (rest : List ℕ) (m : Missed) → (q ≡ Closed → ⊥) → Reached rest n (InBlock q)
    → IsRead (InBlock q) (take n rest) → after_block n (drop n rest) ≡ Err m → FailsAs rest m
block_missed q n rest m o h r e =
    let f = front_is n rest (mark ++ r.0) h.within r.1 in
    subst (λ (x : List ℕ). FailsAs x m) (sym f.0)
    (block_from q r.0 (drop n rest) m o r.2 h.stops
    (subst (λ (k : ℕ). after_block k (drop n rest) ≡ Err m) (f.1 ∙ three (length r.0)) e))
  where
    three : (k : ℕ) → suc (suc (suc k)) ≡ 3 + k
    three k = omega arith

-- ---- the first character

unknown_missed : (c : ℕ) (cs : List ℕ) (m : Missed) → step Start c ≡ None → missed 0 (UnknownCharacter c) ≡ Err m
    → FailsAs (c ∷ cs) m
unknown_missed c cs m s e = missed_as (c ∷ cs) 0 (UnknownCharacter c) m e
    (unknown λ x. let g = starts_run (c ∷ []) x in none-some g.0 (rw s at g.1))

start_missed : (n : ℕ) (rest : List ℕ) (m : Missed) → n ≤ length rest → take n rest ≡ []
    → Stops step Start (drop n rest) → answer Start n rest ≡ Err m → FailsAs rest m
start_missed n [] m l t s e = absurd cc
start_missed zero (c ∷ cs) m l t s e = unknown_missed c cs m s e
start_missed (suc n) (c ∷ cs) m l t s e = absurd cc

-- ---- escapes

open_after : (tail : List ℕ) (n : ℕ) (rest : List ℕ) → n ≤ length rest → IsOpen (92 ∷ 117 ∷ tail) (take n rest)
    → drop (n - length tail) rest ≡ tail ++ drop n rest
open_after tail n rest l o =
    let p = opened (92 ∷ 117 ∷ tail) n rest l o in
    let front : List ℕ = 34 ∷ (p.units ++ 92 ∷ 117 ∷ []) in
    let whole : rest ≡ front ++ (tail ++ drop n rest) = p.rest_is
    ∙ ap (λ (x : List ℕ). 34 ∷ x) (sym (append_assoc p.units (92 ∷ 117 ∷ []) (tail ++ drop n rest))) in
    let size : length front ≡ n - length tail = omega (arith, p.size, length-append p.units (92 ∷ 117 ∷ [])) in
    ap (drop (n - length tail)) whole ∙ drop_at front (tail ++ drop n rest) (n - length tail) size

hex_missed : (tail : List ℕ) (n : ℕ) (rest : List ℕ) (q : State) (m : Missed) → Reached rest n q
    → IsOpen (92 ∷ 117 ∷ tail) (take n rest) → NoScalar (tail ++ drop n rest)
    → after_u (n - suc (length tail)) (drop (n - length tail) rest) ≡ Err m → FailsAs rest m
hex_missed tail n rest q m h o none e =
    let p = opened (92 ∷ 117 ∷ tail) n rest h.within o in
    let size = p.size in
    let u = u_fails (n - suc (length tail)) (tail ++ drop n rest) m
    (subst (λ (x : List ℕ). after_u (n - suc (length tail)) x ≡ Err m) (open_after tail n rest h.within o) e) in
    let place = u.at_is in
    string_missed (92 ∷ 117 ∷ tail) n rest q u.steps m.error h o (no_scalar_unit (tail ++ drop n rest) none) u.fails
    m.at (omega arith)

-- ---- every state

begins_base : (b t : List ℕ) (whole : List ℕ) → whole ≡ b ++ t → IsBase b → BeginsNumber whole
begins_base b t whole e h = rw e (begins_append b t (base_begins b h))

pub answer_missed : (q : State) (n : ℕ) (rest : List ℕ) (m : Missed) → Reached rest n q → IsRead q (take n rest)
    → answer q n rest ≡ Err m → FailsAs rest m
answer_missed Start n rest m h r e = start_missed n rest m h.within r h.stops e
answer_missed (Done kind) n rest m h r e = absurd (not_missed n kind rest m e)
answer_missed OneDot n rest m h r e =
    let f = front_is n rest (46 ∷ []) h.within r in
    subst (λ (x : List ℕ). FailsAs x m) (sym f.0)
    (dot_missed (drop n rest) m h.stops (subst (λ (k : ℕ). after_dots k (drop n rest) ≡ Err m) f.1 e))
answer_missed TwoDots n rest m h r e =
    let f = front_is n rest (46 ∷ 46 ∷ []) h.within r in
    subst (λ (x : List ℕ). FailsAs x m) (sym f.0)
    (dots_missed (drop n rest) m h.stops (subst (λ (k : ℕ). after_dots k (drop n rest) ≡ Err m) f.1 e))
answer_missed InName n rest m h r e = absurd (not_missed n Name rest m e)
answer_missed Minus n rest m h r e = number_missed n rest (drop n rest) Minus m h refl refl (rw r (inl refl)) e
answer_missed Zero n rest m h r e = zero_missed n rest (drop n rest) m h refl r e
answer_missed Digits n rest m h r e = absurd (not_missed n Int rest m e)
answer_missed Point n rest m h r e = number_missed n rest (drop n rest) Point m h refl refl
    (rw r.1 (begins_append r.0 (46 ∷ []) (integer_begins r.0 r.2))) e
answer_missed Fraction n rest m h r e = absurd (not_missed n Float rest m e)
answer_missed ExponentMark n rest m h r e =
    number_missed n rest (drop n rest) ExponentMark m h refl refl (begins_base r.0 (r.1 ∷ []) (take n rest) r.2 r.3) e
answer_missed ExponentSign n rest m h r e =
    number_missed n rest (drop n rest) ExponentSign m h refl refl
    (begins_base r.0 (r.1 ∷ r.2 ∷ []) (take n rest) r.3 r.4) e
answer_missed Exponent n rest m h r e = absurd (not_missed n Float rest m e)
answer_missed Quote n rest m h r e =
    let stops = quote_stop (drop n rest) h.stops in
    let f = units_fails n (drop n rest) m stops e in
    let at_is = f.0 in
    string_missed [] n rest Quote 0 m.error h (open_none (take n rest) r) (units_stop (drop n rest) stops) f.1 m.at
    (omega arith)
answer_missed EmptyString n rest m h r e = absurd (not_missed n String rest m e)
answer_missed InString n rest m h r e =
    let f = units_fails n (drop n rest) m h.stops e in
    let at_is = f.0 in
    string_missed [] n rest InString 0 m.error h r (units_stop (drop n rest) h.stops) f.1 m.at (omega arith)
answer_missed Backslash n rest m h r e =
    let f = backslash_fails n (drop n rest) m h.stops e in
    let at_is = f.0 in
    string_missed (92 ∷ []) n rest Backslash 1 m.error h r (backslash_stop (drop n rest) h.stops) f.1 m.at (omega arith)
answer_missed NoHexDigit n rest m h r e = hex_missed [] n rest NoHexDigit m h r (hex0_stop (drop n rest) h.stops) e
answer_missed OneHexDigit n rest m h r e =
    hex_missed (r.0 ∷ []) n rest OneHexDigit m h r.3 (hex1_stop r.0 (drop n rest) h.stops) e
answer_missed HexDigitD n rest m h r e =
    hex_missed (r.0 ∷ []) n rest HexDigitD m h r.2 (hexd_stop r.0 (drop n rest) r.1 h.stops) e
answer_missed TwoHexDigits n rest m h r e =
    hex_missed (r.0 ∷ r.1 ∷ []) n rest TwoHexDigits m h r.3 (hex2_stop r.0 r.1 (drop n rest) h.stops) e
answer_missed ThreeHexDigits n rest m h r e =
    hex_missed (r.0 ∷ r.1 ∷ r.2 ∷ []) n rest ThreeHexDigits m h r.5 (hex3_stop r.0 r.1 r.2 (drop n rest) h.stops) e
answer_missed (InBlock Closed) n rest m h r e = absurd (not_missed n BlockString rest m e)
answer_missed (InBlock part) n rest m h r e = block_missed part n rest m (λ x. absurd cc) h r e

pub scan_fails : (rest : List ℕ) (m : Missed) → scan rest ≡ Err m → FailsAt rest m.at m.error
scan_fails rest m e =
    let r = reach step Start rest in
    answer_missed r.1 r.0 rest m (reached rest) (front_read rest r.0 r.1 (reached rest)) e
