-- What scan finds is what is read, and the other way round.
use Rattle.std.proofs.Common.{◌≡◌, ℕ, zero, suc, ◌+◌, ◌-◌, ◌<◌, inl, inr, Bool, true, false, cond, ◌==◌, nat_lt, max, ◌&&◌, List, [], ◌∷◌, length, take, drop, IsFalse, Some, Result, Ok, refl, sym, ap, ◌∙◌, subst, arith}
use Rattle.std.proofs.lemmas.Option.{none-some, same_Some}
use Rattle.std.proofs.lemmas.Bool.{cond-false}
use Rattle.graphql_lexical.specs.Characters.{is_digit, is_line_end}
use Rattle.graphql_lexical.specs.Kinds.{Kind, Name, String, BlockString, Float, Int, EndOfFile, LexicalError, UnexpectedCharacter, UnterminatedString, UnknownCharacterInString, UnknownEscapeSequence}
use Rattle.graphql_lexical.specs.Tokens.{Spells, Starts, IsZero}
use Rattle.graphql_lexical.specs.device.Whole.{IsToken, text_of}
use Rattle.graphql_lexical.specs.device.Indexed.{counted, LongestAt, ReadsAt}
use Rattle.graphql_lexical.specs.device.Machines.{reach}
use Rattle.graphql_lexical.specs.device.Scan.{State, Start, Done, OneDot, TwoDots, InName, Minus, Zero, Digits, Point, Fraction, ExponentMark, ExponentSign, Exponent, InString, Backslash, NoHexDigit, OneHexDigit, HexDigitD, TwoHexDigits, ThreeHexDigits, step, Found, Missed, found, missed, stopped, after_zero, after_dots, after_units, after_backslash, after_u, answer, scan, Quote, EmptyString, InBlock, Closed, after_block}
use Rattle.graphql_lexical.proofs.Runs.{Reaches, reach_is, Longest_same}
use Rattle.graphql_lexical.proofs.History.{IsRead, read_run}
use Rattle.graphql_lexical.proofs.Spelled.{Goes, accepts, accepts_spells, spells_run, starts_from, starts_run}
use Rattle.graphql_lexical.proofs.Wholes.{spells_token, token_spells}

abbrev pub Reached : List ℕ → ℕ → State → Type 0
Reached rest n q = Reaches step Start rest n q

pub reached : (rest : List ℕ) → Reached rest (reach step Start rest).0 (reach step Start rest).1
reached rest = reach_is step Start rest

-- the longest front that begins a token is how far the steps go
pub starts_longest : (rest : List ℕ) (n : ℕ) (q : State) → Reached rest n q → LongestAt Starts rest n
starts_longest rest n q h = record {
  within = h.within;
  holds = starts_from (take n rest) q h.runs;
  most = λ m l x. let r = starts_run (take m rest) x in h.most m r.0 l r.1;
}

pub front_read : (rest : List ℕ) (n : ℕ) (q : State) → Reached rest n q → IsRead q (take n rest)
front_read rest n q h = read_run Start [] (take n rest) q refl h.runs

pub same_state : (t : List ℕ) (p q : State) → Goes Start t p → Goes Start t q → p ≡ q
same_state t p q a b = same_Some p q (sym a ∙ b)

-- what spells a token has led to a state that is this token
pub spells_accepts : (t : List ℕ) (q : State) (kind : Kind) → Goes Start t q → IsToken t kind → accepts q ≡ Some kind
spells_accepts t q kind e s =
    let r = spells_run t kind s in
    ap accepts (same_state t q r.state e r.runs) ∙ r.accepted

pub zero_state : (t : List ℕ) (q : State) → Goes Start t q → IsZero t → q ≡ Zero
zero_state t q e (inl z) = same_state t q Zero e (rw z)
zero_state t q e (inr z) = same_state t q Zero e (rw z)

-- ---- what an answer that finds says

-- no digit begins it
abbrev pub NoDigit : List ℕ → Type 0
NoDigit t = (c : ℕ) (after : List ℕ) → t ≡ c ∷ after → IsFalse (is_digit c)

pub no_digit : (c : ℕ) (t : List ℕ) → IsFalse (is_digit c) → NoDigit (c ∷ t)
no_digit c t h d after e = let same : d ≡ c = cc in ap is_digit same ∙ h

pub record Finds (q : State) (n : ℕ) (rest : List ℕ) (f : Found) : Type 0 where
  pub accepted : accepts q ≡ Some f.kind
  pub size_is : n ≡ f.size
  pub text_is : f.text ≡ text_of f.kind (take n rest)
  pub alone : q ≡ Zero → NoDigit (drop n rest)

pub same_Ok : (x y : Found) → ◌≡◌ {A = Result Found Missed} (Ok x) (Ok y) → x ≡ y
same_Ok x y e = cc

found_finds : (q : State) (n : ℕ) (kind : Kind) (rest : List ℕ) (f : Found) → accepts q ≡ Some kind
    → (q ≡ Zero → NoDigit (drop n rest)) → found n kind rest ≡ Ok f → Finds q n rest f
found_finds q n kind rest f a z e =
    let d = same_Ok (record { size = n; kind = kind; text = text_of kind (take n rest) }) f e in
    subst (λ (x : Found). Finds q n rest x) d (record { accepted = a; size_is = refl; text_is = refl; alone = z })

pub not_Ok : (n : ℕ) (e : LexicalError) (f : Found) → missed n e ≡ Ok f → ⊥
not_Ok n e f h = cc

stopped_not : (n : ℕ) (b : List ℕ) (f : Found) → stopped n b ≡ Ok f → ⊥
stopped_not n [] f e = cc
stopped_not n (c ∷ b) f e = cc

dots_not : (n : ℕ) (b : List ℕ) (f : Found) → after_dots n b ≡ Ok f → ⊥
dots_not n [] f e = cc
dots_not n (c ∷ b) f e = cc

cond_not : (b : Bool) (x y : Result Found Missed) (f : Found) → (x ≡ Ok f → ⊥) → (y ≡ Ok f → ⊥) → cond b x y ≡ Ok f → ⊥
cond_not true x y f g h e = g e
cond_not false x y f g h e = h e

units_not : (n : ℕ) (b : List ℕ) (f : Found) → after_units n b ≡ Ok f → ⊥
units_not n [] f e = cc
units_not n (c ∷ b) f e = cond_not (is_line_end c) (missed n UnterminatedString) (missed n (UnknownCharacterInString c))
    f (not_Ok n UnterminatedString f) (not_Ok n (UnknownCharacterInString c) f) e

block_not : (n : ℕ) (b : List ℕ) (f : Found) → after_block n b ≡ Ok f → ⊥
block_not n [] f e = cc
block_not n (c ∷ b) f e = cc

backslash_not : (n : ℕ) (b : List ℕ) (f : Found) → after_backslash n b ≡ Ok f → ⊥
backslash_not n [] f e = cc
backslash_not n (c ∷ b) f e = cc

u_not : (n : ℕ) (b : List ℕ) (f : Found) → after_u n b ≡ Ok f → ⊥
u_not n b f e = cond_not (nat_lt (counted b) 4 && counted b == length b) (missed (suc n + length b) UnterminatedString)
    (missed n (UnknownEscapeSequence (92 ∷ 117 ∷ take (max 1 (counted b)) b))) f (not_Ok _ _ f) (not_Ok _ _ f) e

cond_zero : (b : Bool) (x y : Result Found Missed) (f : Found) → (x ≡ Ok f → ⊥) → cond b x y ≡ Ok f
    → (b ≡ false) × (y ≡ Ok f)
cond_zero true x y f g e = absurd (g e)
cond_zero false x y f g e = (refl, e)

zero_finds : (n : ℕ) (rest b : List ℕ) (f : Found) → after_zero n rest b ≡ Ok f
    → NoDigit b × (found n Int rest ≡ Ok f)
zero_finds n rest [] f e = (λ c after g. absurd cc, e)
zero_finds n rest (c ∷ b) f e =
    let h = cond_zero (is_digit c) (missed n (UnexpectedCharacter c)) (found n Int rest) f (not_Ok _ _ f) e in
    (no_digit c b h.0, h.1)

pub answer_finds : (q : State) (n c : ℕ) (cs : List ℕ) (f : Found) → answer q n (c ∷ cs) ≡ Ok f → Finds q n (c ∷ cs) f
answer_finds Start n c cs f e = absurd (not_Ok _ _ f e)
answer_finds (Done kind) n c cs f e = found_finds (Done kind) n kind (c ∷ cs) f refl (λ z. absurd cc) e
answer_finds OneDot n c cs f e = absurd (dots_not _ _ f e)
answer_finds TwoDots n c cs f e = absurd (dots_not _ _ f e)
answer_finds InName n c cs f e = found_finds InName n Name (c ∷ cs) f refl (λ z. absurd cc) e
answer_finds Minus n c cs f e = absurd (stopped_not _ _ f e)
answer_finds Zero n c cs f e = let h = zero_finds n (c ∷ cs) (drop n (c ∷ cs)) f e in
    found_finds Zero n Int (c ∷ cs) f refl (λ z. h.0) h.1
answer_finds Digits n c cs f e = found_finds Digits n Int (c ∷ cs) f refl (λ z. absurd cc) e
answer_finds Point n c cs f e = absurd (stopped_not _ _ f e)
answer_finds Fraction n c cs f e = found_finds Fraction n Float (c ∷ cs) f refl (λ z. absurd cc) e
answer_finds ExponentMark n c cs f e = absurd (stopped_not _ _ f e)
answer_finds ExponentSign n c cs f e = absurd (stopped_not _ _ f e)
answer_finds Exponent n c cs f e = found_finds Exponent n Float (c ∷ cs) f refl (λ z. absurd cc) e
answer_finds Quote n c cs f e = absurd (units_not n (drop n (c ∷ cs)) f e)
answer_finds EmptyString n c cs f e = found_finds EmptyString n String (c ∷ cs) f refl (λ z. absurd cc) e
answer_finds InString n c cs f e = absurd (units_not n (drop n (c ∷ cs)) f e)
answer_finds Backslash n c cs f e = absurd (backslash_not _ _ f e)
answer_finds NoHexDigit n c cs f e = absurd (u_not (n - 1) (drop (n - 0) (c ∷ cs)) f e)
answer_finds OneHexDigit n c cs f e = absurd (u_not (n - 2) (drop (n - 1) (c ∷ cs)) f e)
answer_finds HexDigitD n c cs f e = absurd (u_not (n - 2) (drop (n - 1) (c ∷ cs)) f e)
answer_finds TwoHexDigits n c cs f e = absurd (u_not (n - 3) (drop (n - 2) (c ∷ cs)) f e)
answer_finds ThreeHexDigits n c cs f e = absurd (u_not (n - 4) (drop (n - 3) (c ∷ cs)) f e)
answer_finds (InBlock Closed) n c cs f e = found_finds (InBlock Closed) n BlockString (c ∷ cs) f refl (λ z. absurd cc) e
answer_finds (InBlock _) n c cs f e = absurd (block_not n (drop n (c ∷ cs)) f e)

-- ---- what is accepted is answered

zero_found : (n : ℕ) (rest b : List ℕ) → NoDigit b → after_zero n rest b ≡ found n Int rest
zero_found n rest [] h = refl
zero_found n rest (c ∷ b) h = cond-false (is_digit c) _ _ (h c b refl)

pub accepts_answer : (q : State) (n : ℕ) (rest : List ℕ) (kind : Kind) → accepts q ≡ Some kind
    → (q ≡ Zero → NoDigit (drop n rest)) → answer q n rest ≡ found n kind rest
accepts_answer (Done k) n rest kind e z = ap (λ (x : Kind). found n x rest) (same_Some k kind e)
accepts_answer InName n rest kind e z = ap (λ (x : Kind). found n x rest) (same_Some Name kind e)
accepts_answer Zero n rest kind e z = zero_found n rest (drop n rest) (z refl)
    ∙ ap (λ (x : Kind). found n x rest) (same_Some Int kind e)
accepts_answer Digits n rest kind e z = ap (λ (x : Kind). found n x rest) (same_Some Int kind e)
accepts_answer Fraction n rest kind e z = ap (λ (x : Kind). found n x rest) (same_Some Float kind e)
accepts_answer Exponent n rest kind e z = ap (λ (x : Kind). found n x rest) (same_Some Float kind e)
accepts_answer EmptyString n rest kind e z = ap (λ (x : Kind). found n x rest) (same_Some String kind e)
accepts_answer (InBlock Closed) n rest kind e z = ap (λ (x : Kind). found n x rest) (same_Some BlockString kind e)
accepts_answer _ n rest kind e z = absurd (none-some kind e)

-- ---- both ways

finds_reads : (rest : List ℕ) (n : ℕ) (q : State) (f : Found) → Reached rest n q → Finds q n rest f
    → ReadsAt rest f.size f.kind f.text
finds_reads rest n q f h g =
    subst (λ (k : ℕ). ReadsAt rest k f.kind f.text) g.size_is (record {
      longest = starts_longest rest n q h;
      spells =
          inl (token_spells (take n rest) f.kind f.text
          (accepts_spells q f.kind (take n rest) g.accepted (front_read rest n q h)) g.text_is);
      alone = λ z. g.alone (zero_state (take n rest) q h.runs z);
    })

pub end_reads : ReadsAt [] 0 EndOfFile []
end_reads = record {
  longest = let r = reach step Start [] in starts_longest [] r.0 r.1 (reached []);
  spells = inr (refl, refl, refl);
  alone = λ z c after e. absurd cc;
}

-- no token has no characters
pub no_empty : (kind : Kind) → IsToken [] kind → ⊥
no_empty kind s = let r = spells_run [] kind s in start_no_token r.state kind r.runs r.accepted
  where
    start_no_token : (q : State) (kind : Kind) → Goes Start [] q → accepts q ≡ Some kind → ⊥
    start_no_token Start kind g a = none-some kind a
    start_no_token _ kind g a = absurd cc

-- where nothing is left, the end is read
pub read_end : (n : ℕ) (kind : Kind) (text : List ℕ) → ReadsAt [] n kind text
    → (n ≡ 0) × (kind ≡ EndOfFile) × (text ≡ [])
read_end zero kind text r = elim r.spells [
  | inl s ↦ absurd (no_empty kind (spells_token [] kind text s).0)
  | inr e ↦ (refl, e.1, e.2)
]
read_end (suc n) kind text r = absurd (omega (arith, r.longest.within))

-- where something is left, a token is read, which isn't empty
pub read_token : (c : ℕ) (cs : List ℕ) (n : ℕ) (kind : Kind) (text : List ℕ) → ReadsAt (c ∷ cs) n kind text
    → (0 < n) × Spells (take n (c ∷ cs)) kind text
read_token c cs n kind text r = elim r.spells [
  | inl s ↦ (some n s, s)
  | inr e ↦ absurd (let g = e.0 in cc)
]
  where
    some : (n : ℕ) → Spells (take n (c ∷ cs)) kind text → 0 < n
    some zero s = absurd (no_empty kind (spells_token [] kind text s).0)
    some (suc n) s = omega arith

pub scan_reads : (rest : List ℕ) (f : Found) → scan rest ≡ Ok f → ReadsAt rest f.size f.kind f.text
scan_reads [] f e =
    subst (λ (x : Found). ReadsAt [] x.size x.kind x.text)
    (same_Ok (record { size = 0; kind = EndOfFile; text = [] }) f e) end_reads
scan_reads (c ∷ cs) f e =
    let r = reach step Start (c ∷ cs) in
    finds_reads (c ∷ cs) r.0 r.1 f (reached (c ∷ cs)) (answer_finds r.1 r.0 c cs f e)

reads_answer : (rest : List ℕ) (m n : ℕ) (q : State) (kind : Kind) (text : List ℕ) → ReadsAt rest n kind text
    → Spells (take n rest) kind text → Reached rest m q → answer q m rest ≡ Ok (record { size = n; kind = kind; text = text })
reads_answer rest m n q kind text r spells h =
    let same : n ≡ m = Longest_same Starts rest n m r.longest (starts_longest rest m q h) in
    let s = spells_token (take n rest) kind text spells in
    let spelled : IsToken (take m rest) kind = subst (λ (k : ℕ). IsToken (take k rest) kind) same s.0 in
    let a = spells_accepts (take m rest) q kind h.runs spelled in
    let alone : q ≡ Zero → NoDigit (drop m rest) =
    λ z. subst (λ (k : ℕ). IsZero (take k rest) → NoDigit (drop k rest)) same r.alone
    (subst (λ (x : State). IsRead x (take m rest)) z (front_read rest m q h)) in
    accepts_answer q m rest kind a alone ∙ rw (s.1, ← same)

pub reads_scan : (rest : List ℕ) (n : ℕ) (kind : Kind) (text : List ℕ) → ReadsAt rest n kind text
    → scan rest ≡ Ok (record { size = n; kind = kind; text = text })
reads_scan [] n kind text r = let e = read_end n kind text r in rw (e.0, e.1, e.2)
reads_scan (c ∷ cs) n kind text r =
    let x = reach step Start (c ∷ cs) in
    reads_answer (c ∷ cs) x.0 n x.1 kind text r (read_token c cs n kind text r).1 (reached (c ∷ cs))
