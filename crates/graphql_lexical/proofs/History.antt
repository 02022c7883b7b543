-- What has been read, at each state.
use Rattle.std.proofs.Common.{◌≡◌, ℕ, ◌⊎◌, inl, inr, Bool, true, false, cond, eqb, List, [], ◌∷◌, ◌++◌, Option, Some, None, IsTrue, refl, sym, ap, ◌∙◌, subst, arith, append_assoc, append-nil, length-append}
use Rattle.std.specs.Prelude.{option_map, option_and_then}
use Rattle.std.specs.Option.{IfSome, option_map_or}
use Rattle.std.specs.List.{AllByRecursion, concat, find}
use Rattle.std.proofs.lemmas.Bool.{eqb-true}
use Rattle.std.proofs.lemmas.Option.{none-some, same_Some}
use Rattle.graphql_lexical.specs.Characters.{is_digit, is_name_character, is_exponent_mark, is_sign, is_hex}
use Rattle.graphql_lexical.specs.Kinds.{Kind, String, Ellipsis, all_kinds, Spelling, Fixed, spelling, fixed_text, only_character, character_of}
use Rattle.graphql_lexical.specs.Tokens.{IsZero, IsUnit, plain, escape, unicode, Pieces, is_character, punctuator, mark}
use Rattle.graphql_lexical.specs.device.Whole.{Admits, IsToken}
use Rattle.graphql_lexical.specs.device.Numbers.{ReadName, ReadDigits, ReadLongInteger, ReadInteger, ReadFraction, ReadExponent}
use Rattle.graphql_lexical.specs.device.Scan.{State, Start, Done, OneDot, TwoDots, InName, Minus, Zero, Digits, Point, Fraction, ExponentMark, ExponentSign, Exponent, InString, Backslash, NoHexDigit, OneHexDigit, HexDigitD, TwoHexDigits, ThreeHexDigits, is_hex_d, step, Quote, EmptyString, InBlock, Block, Inside, block_step}
use Rattle.graphql_lexical.proofs.Runs.{run, kept_run, run_on}
use Rattle.graphql_lexical.proofs.Numbers.{IsPair, pair_d, pair_other, scalar_from}

-- an integer part, and a fraction or nothing
abbrev pub IsBase : List ℕ → Type 0
IsBase base = (whole : List ℕ) × (fraction : List ℕ) × (base ≡ whole ++ fraction) × ReadInteger whole
    × ((fraction ≡ []) ⊎ ReadFraction fraction)

-- a quote, units, and this tail
pub record IsOpen (tail text : List ℕ) : Type 0 where
  pub units : List ℕ
  pub text_is : text ≡ 34 ∷ units ++ tail
  pub made : Pieces IsUnit units

abbrev pub IsRead : State → List ℕ → Type 0
IsRead Start t = t ≡ []
IsRead (Done kind) t = IsToken t kind
IsRead OneDot t = t ≡ 46 ∷ []
IsRead TwoDots t = t ≡ 46 ∷ 46 ∷ []
IsRead InName t = ReadName t
IsRead Minus t = t ≡ 45 ∷ []
IsRead Zero t = IsZero t
IsRead Digits t = ReadLongInteger t
IsRead Point t = (w : List ℕ) × (t ≡ w ++ 46 ∷ []) × ReadInteger w
IsRead Fraction t = (w : List ℕ) × (f : List ℕ) × (t ≡ w ++ f) × ReadInteger w × ReadFraction f
IsRead ExponentMark t = (b : List ℕ) × (e : ℕ) × (t ≡ b ++ e ∷ []) × IsBase b × IsTrue (is_exponent_mark e)
IsRead ExponentSign t = (b : List ℕ) × (e : ℕ) × (s : ℕ) × (t ≡ b ++ e ∷ s ∷ []) × IsBase b
    × IsTrue (is_exponent_mark e) × IsTrue (is_sign s)
IsRead Exponent t = (b : List ℕ) × (x : List ℕ) × (t ≡ b ++ x) × IsBase b × ReadExponent x
IsRead Quote t = t ≡ 34 ∷ []
IsRead EmptyString t = t ≡ 34 ∷ 34 ∷ []
IsRead InString t = IsOpen [] t
IsRead Backslash t = IsOpen (92 ∷ []) t
IsRead NoHexDigit t = IsOpen (92 ∷ 117 ∷ []) t
IsRead OneHexDigit t = (h : ℕ) × IsTrue (is_hex h) × (is_hex_d h ≡ false) × IsOpen (92 ∷ 117 ∷ h ∷ []) t
IsRead HexDigitD t = (h : ℕ) × IsTrue (is_hex_d h) × IsOpen (92 ∷ 117 ∷ h ∷ []) t
IsRead TwoHexDigits t = (h : ℕ) × (i : ℕ) × IsPair h i × IsOpen (92 ∷ 117 ∷ h ∷ i ∷ []) t
IsRead ThreeHexDigits t = (h : ℕ) × (i : ℕ) × (j : ℕ) × IsPair h i × IsTrue (is_hex j)
    × IsOpen (92 ∷ 117 ∷ h ∷ i ∷ j ∷ []) t
IsRead (InBlock part) t = (s : List ℕ) × (t ≡ mark ++ s) × (run block_step Inside s ≡ Some part)

-- ---- tests, one after another

pub if_then : {A : Type 0} (P : A → Type 0) (b : Bool) (x : A) (o : Option A) → (b ≡ true → P x)
    → ((y : A) → o ≡ Some y → P y) → (y : A) → cond b (Some x) o ≡ Some y → P y
if_then P true x o f g y e = subst P (same_Some x y e) (f refl)
if_then P false x o f g y e = g y e

pub if_none : {A : Type 0} (P : A → Type 0) (y : A) → None ≡ Some y → P y
if_none P y e = absurd (none-some y e)

pub if_not : {A : Type 0} (P : A → Type 0) (b : Bool) (x : A) (o : Option A) → (b ≡ true → P x)
    → (b ≡ false → (y : A) → o ≡ Some y → P y) → (y : A) → cond b (Some x) o ≡ Some y → P y
if_not P true x o f g y e = subst P (same_Some x y e) (f refl)
if_not P false x o f g y e = g refl y e

-- what stops at no test
pub cond_none : {A : Type 0} (b : Bool) (x : A) (o : Option A) → cond b (Some x) o ≡ None → (b ≡ false) × (o ≡ None)
cond_none true x o e = absurd (none-some x (sym e))
cond_none false x o e = (refl, e)

-- ---- one more element

pub All_push : (P : ℕ → Type 0) (xs : List ℕ) (c : ℕ) → AllByRecursion P xs → P c → AllByRecursion P (xs ++ c ∷ [])
All_push P [] c h p = (p, tt)
All_push P (x ∷ xs) c h p = (h.0, All_push P xs c h.1 p)

pub units_then : (us u : List ℕ) → Pieces IsUnit us → IsUnit u → Pieces IsUnit (us ++ u)
units_then us u h x = (h.0 ++ u ∷ [], pieces_then h.0 u h.1 x, rw (h.2) (concat_then h.0 u))
  where
    pieces_then : (ps : List (List ℕ)) (u : List ℕ) → AllByRecursion IsUnit ps → IsUnit u
        → AllByRecursion IsUnit (ps ++ u ∷ [])
    pieces_then [] u h x = (x, tt)
    pieces_then (p ∷ ps) u h x = (h.0, pieces_then ps u h.1 x)

    concat_then : (ps : List (List ℕ)) (u : List ℕ) → concat ps ++ u ≡ concat (ps ++ u ∷ [])
    concat_then [] u = sym (append-nil u)
    concat_then (p ∷ ps) u = append_assoc p (concat ps) u ∙ ap (λ (x : List ℕ). p ++ x) (concat_then ps u)

-- the tail goes on
pub open_more : (tail t : List ℕ) (c : ℕ) → IsOpen tail t → IsOpen (tail ++ c ∷ []) (t ++ c ∷ [])
open_more tail t c h = record {
  units = h.units;
  text_is = ap (λ (x : List ℕ). x ++ c ∷ []) h.text_is
      ∙ ap (λ (x : List ℕ). 34 ∷ x) (append_assoc h.units tail (c ∷ []));
  made = h.made;
}

-- the tail is a unit
pub open_unit : (u t : List ℕ) → IsOpen u t → IsUnit u → IsOpen [] t
open_unit u t h x = record {
  units = h.units ++ u;
  text_is = h.text_is ∙ ap (λ (y : List ℕ). 34 ∷ y) (sym (append-nil (h.units ++ u)));
  made = units_then h.units u h.made x;
}

pub digits_push : (ds : List ℕ) (c : ℕ) → ReadDigits ds → IsTrue (is_digit c) → ReadDigits (ds ++ c ∷ [])
digits_push ds c h p = (omega (arith, length-append ds (c ∷ [])), All_push (λ d. IsTrue (is_digit d)) ds c h.1 p)

pub fraction_push : (f : List ℕ) (c : ℕ) → ReadFraction f → IsTrue (is_digit c) → ReadFraction (f ++ c ∷ [])
fraction_push f c h p = (h.0 ++ c ∷ [], ap (λ (x : List ℕ). x ++ c ∷ []) h.1, digits_push h.0 c h.2 p)

pub exponent_push : (x : List ℕ) (c : ℕ) → ReadExponent x → IsTrue (is_digit c) → ReadExponent (x ++ c ∷ [])
exponent_push x c h p = (
  h.0,
  h.1,
  h.2 ++ c ∷ [],
  ap (λ (y : List ℕ). y ++ c ∷ []) h.3
      ∙ ap (λ (y : List ℕ). h.0 ∷ y) (append_assoc h.1 h.2 (c ∷ [])),
  h.4,
  h.5,
  digits_push h.2 c h.6 p,
)

-- a part at the end goes on
pub end_push : (t a b : List ℕ) (c : ℕ) → t ≡ a ++ b → t ++ c ∷ [] ≡ a ++ (b ++ c ∷ [])
end_push t a b c e = ap (λ (x : List ℕ). x ++ c ∷ []) e ∙ append_assoc a b (c ∷ [])

-- ---- a step

found_passes : {A : Type 0} (test : A → Bool) (xs : List A) (x : A) → find test xs ≡ Some x → test x ≡ true
found_passes test [] x e = absurd (none-some x e)
found_passes test (y ∷ ys) x e =
    if_then (λ z. test z ≡ true) (test y) y (find test ys) (λ h. h) (found_passes test ys) x e

-- what is spelled by one character is spelled by that character
lone_spelling : (s : Spelling) → IfSome (option_and_then only_character (fixed_text s)) (λ c. s ≡ Fixed (c ∷ []))
lone_spelling (Fixed []) = tt
lone_spelling (Fixed (c ∷ [])) = refl
lone_spelling (Fixed (c ∷ d ∷ cs)) = tt
lone_spelling _ = tt

pub punctuator_spells : (c : ℕ) (kind : Kind) → punctuator c ≡ Some kind → IsToken (c ∷ []) kind
punctuator_spells c kind e =
    by_character (character_of kind) (lone_spelling (spelling kind)) (found_passes (is_character c) all_kinds kind e)
  where
    by_character : (o : Option ℕ) → IfSome o (λ d. spelling kind ≡ Fixed (d ∷ []))
        → option_map_or (λ d. eqb c d) o false ≡ true → IsToken (c ∷ []) kind
    by_character None s h = absurd cc
    by_character (Some d) s h = subst (λ x. Admits x (c ∷ [])) (sym s) (ap (λ (x : ℕ). x ∷ []) (eqb-true c d h))

pub punctuator_read : (c : ℕ) (o : Option Kind) → ((kind : Kind) → o ≡ Some kind → IsToken (c ∷ []) kind) → (p : State)
    → option_map Done o ≡ Some p → IsRead p (c ∷ [])
punctuator_read c None h p e = absurd (none-some p e)
punctuator_read c (Some kind) h p e = subst (λ (s : State). IsRead s (c ∷ [])) (same_Some (Done kind) p e) (h kind refl)

-- a quote, before any unit
pub open_none : (t : List ℕ) → t ≡ 34 ∷ [] → IsOpen [] t
open_none t e = record { units = []; text_is = e; made = ([], tt, refl) }

block_push : (part next : Block) (s : List ℕ) (c : ℕ) → run block_step Inside s ≡ Some part
    → block_step part c ≡ Some next → run block_step Inside (s ++ c ∷ []) ≡ Some next
block_push part next s c e f = run_on block_step Inside part s (c ∷ []) e ∙ rw f

in_block_read : (part : Block) (t : List ℕ) (c : ℕ) (o : Option Block) → block_step part c ≡ o → IsRead (InBlock part) t
    → (p : State) → option_map InBlock o ≡ Some p → IsRead p (t ++ c ∷ [])
in_block_read part t c None h r p e = absurd (none-some p e)
in_block_read part t c (Some next) h r p e =
    subst (λ (s : State). IsRead s (t ++ c ∷ [])) (same_Some (InBlock next) p e)
    (r.0 ++ c ∷ [], ap (λ (x : List ℕ). x ++ c ∷ []) r.1, block_push part next r.0 c r.2 h)

integer_base : (t : List ℕ) → ReadInteger t → IsBase t
integer_base t h = (t, [], sym (append-nil t), h, inl refl)

-- a mark after an integer part, or after a fraction
mark_read : (t : List ℕ) (c : ℕ) → IsBase t → IsTrue (is_exponent_mark c) → IsRead ExponentMark (t ++ c ∷ [])
mark_read t c h g = (t, c, refl, h, g)

pub read_step : (q : State) (t : List ℕ) (c : ℕ) → IsRead q t → (p : State) → step q c ≡ Some p → IsRead p (t ++ c ∷ [])
read_step Start t c r =
    subst (λ (x : List ℕ). (p : State) → step Start c ≡ Some p → IsRead p (x ++ c ∷ [])) (sym r) (
    let P = λ (p : State). IsRead p (c ∷ []) in
    let at : (n : ℕ) → IsTrue (eqb c n) → c ∷ [] ≡ n ∷ [] = λ n h. ap (λ (x : ℕ). x ∷ []) (eqb-true c n h) in
    if_then P _ Digits _ (λ h. ([], c, [], refl, inl refl, h, tt)) (
    if_then P _ InName _ (λ h. (c, [], refl, h, tt)) (
    if_then P _ Zero _ (λ h. inl (at 48 h)) (
    if_then P _ Minus _ (at 45) (
    if_then P _ OneDot _ (at 46) (
    if_then P _ Quote _ (at 34) (
    punctuator_read c (punctuator c) (punctuator_spells c)))))))
    )
read_step (Done kind) t c r = if_none (λ p. IsRead p (t ++ c ∷ []))
read_step OneDot t c r =
    let P = λ (p : State). IsRead p (t ++ c ∷ []) in
    if_then P _ TwoDots _ (λ h. rw (r, eqb-true c 46 h) refl) (if_none P)
read_step TwoDots t c r =
    let P = λ (p : State). IsRead p (t ++ c ∷ []) in
    if_then P _ (Done Ellipsis) _ (λ h. rw (r, eqb-true c 46 h) refl) (if_none P)
read_step InName t c r =
    let P = λ (p : State). IsRead p (t ++ c ∷ []) in
    if_then P _ InName _ (λ h. (
      r.0,
      r.1 ++ c ∷ [],
      ap (λ (x : List ℕ). x ++ c ∷ []) r.2,
      r.3,
      All_push (λ d. IsTrue (is_name_character d)) r.1 c r.4 h,
    )) (if_none P)
read_step Minus t c r =
    let P = λ (p : State). IsRead p (t ++ c ∷ []) in
    if_then P _ Digits _ (λ h. (45 ∷ [], c, [], ap (λ (x : List ℕ). x ++ c ∷ []) r, inr refl, h, tt)) (
    if_then P _ Zero _ (λ h. inr (rw (r, eqb-true c 48 h) refl)) (if_none P))
read_step Zero t c r =
    let P = λ (p : State). IsRead p (t ++ c ∷ []) in
    if_then P _ Point _ (λ h. (t, ap (λ (x : ℕ). t ++ x ∷ []) (eqb-true c 46 h), inl r)) (
    if_then P _ ExponentMark _ (λ h. mark_read t c (integer_base t (inl r)) h) (if_none P))
read_step Digits t c r =
    let P = λ (p : State). IsRead p (t ++ c ∷ []) in
    if_then P _ Digits _ (λ h. (
      r.0,
      r.1,
      r.2 ++ c ∷ [],
      end_push t r.0 (r.1 ∷ r.2) c r.3,
      r.4,
      r.5,
      All_push (λ d. IsTrue (is_digit d)) r.2 c r.6 h,
    )) (
    if_then P _ Point _ (λ h. (t, ap (λ (x : ℕ). t ++ x ∷ []) (eqb-true c 46 h), inr r)) (
    if_then P _ ExponentMark _ (λ h. mark_read t c (integer_base t (inr r)) h) (if_none P)))
read_step Point t c r =
    let P = λ (p : State). IsRead p (t ++ c ∷ []) in
    if_then P _ Fraction _ (λ h. (
      r.0,
      46 ∷ c ∷ [],
      end_push t r.0 (46 ∷ []) c r.1,
      r.2,
      (c ∷ [], refl, (omega arith, (h, tt))),
    )) (if_none P)
read_step Fraction t c r =
    let P = λ (p : State). IsRead p (t ++ c ∷ []) in
    if_then P _ Fraction _ (λ h. (r.0, r.1 ++ c ∷ [], end_push t r.0 r.1 c r.2, r.3, fraction_push r.1 c r.4 h)) (
    if_then P _ ExponentMark _ (λ h. mark_read t c (r.0, r.1, r.2, r.3, inr r.4) h) (if_none P))
read_step ExponentMark t c r =
    let P = λ (p : State). IsRead p (t ++ c ∷ []) in
    if_then P _ Exponent _ (λ h. (
      r.0,
      r.1 ∷ c ∷ [],
      end_push t r.0 (r.1 ∷ []) c r.2,
      r.3,
      (r.1, [], c ∷ [], refl, r.4, inl refl, (omega arith, (h, tt))),
    )) (
    if_then P _ ExponentSign _ (λ h. (r.0, r.1, c, end_push t r.0 (r.1 ∷ []) c r.2, r.3, r.4, h)) (if_none P))
read_step ExponentSign t c r =
    let P = λ (p : State). IsRead p (t ++ c ∷ []) in
    if_then P _ Exponent _ (λ h. (
      r.0,
      r.1 ∷ r.2 ∷ c ∷ [],
      end_push t r.0 (r.1 ∷ r.2 ∷ []) c r.3,
      r.4,
      (r.1, r.2 ∷ [], c ∷ [], refl, r.5, inr (r.2, refl, r.6), (omega arith, (h, tt))),
    )) (if_none P)
read_step Exponent t c r =
    let P = λ (p : State). IsRead p (t ++ c ∷ []) in
    if_then P _ Exponent _ (λ h. (r.0, r.1 ++ c ∷ [], end_push t r.0 r.1 c r.2, r.3, exponent_push r.1 c r.4 h))
    (if_none P)
read_step Quote t c r =
    let P = λ (p : State). IsRead p (t ++ c ∷ []) in
    let more = open_more [] t c (open_none t r) in
    if_then P _ InString _ (λ h. open_unit (c ∷ []) (t ++ c ∷ []) more (plain h)) (
    if_then P _ EmptyString _ (λ h. rw (r, eqb-true c 34 h) refl) (
    if_then P _ Backslash _ (λ h. subst (λ (x : ℕ). IsOpen (x ∷ []) (t ++ c ∷ [])) (eqb-true c 92 h) more) (if_none P)))
read_step EmptyString t c r =
    let P = λ (p : State). IsRead p (t ++ c ∷ []) in
    if_then P _ (InBlock Inside) _ (λ h. ([], rw (r, eqb-true c 34 h) refl, refl)) (if_none P)
read_step InString t c r =
    let P = λ (p : State). IsRead p (t ++ c ∷ []) in
    let more = open_more [] t c r in
    if_then P _ InString _ (λ h. open_unit (c ∷ []) (t ++ c ∷ []) more (plain h)) (
    if_then P _ (Done String) _ (λ h. (
      more.units,
      more.text_is
          ∙ ap (λ (x : ℕ). 34 ∷ more.units ++ x ∷ []) (eqb-true c 34 h),
      more.made,
    )) (
    if_then P _ Backslash _ (λ h. subst (λ (x : ℕ). IsOpen (x ∷ []) (t ++ c ∷ [])) (eqb-true c 92 h) more) (if_none P)))
read_step Backslash t c r =
    let P = λ (p : State). IsRead p (t ++ c ∷ []) in
    let more = open_more (92 ∷ []) t c r in
    if_then P _ InString _ (λ h. open_unit (92 ∷ c ∷ []) (t ++ c ∷ []) more (escape h)) (
    if_then P _ NoHexDigit _ (λ h. subst (λ (x : ℕ). IsOpen (92 ∷ x ∷ []) (t ++ c ∷ [])) (eqb-true c 117 h) more)
    (if_none P))
read_step NoHexDigit t c r =
    let P = λ (p : State). IsRead p (t ++ c ∷ []) in
    let more = open_more (92 ∷ 117 ∷ []) t c r in
    if_not P _ HexDigitD _ (λ h. (c, h, more)) (λ g. if_then P _ OneHexDigit _ (λ h. (c, h, g, more)) (if_none P))
read_step OneHexDigit t c r =
    let P = λ (p : State). IsRead p (t ++ c ∷ []) in
    if_then P _ TwoHexDigits _ (λ h. (r.0, c, pair_other r.0 c r.1 r.2 h, open_more (92 ∷ 117 ∷ r.0 ∷ []) t c r.3))
    (if_none P)
read_step HexDigitD t c r =
    let P = λ (p : State). IsRead p (t ++ c ∷ []) in
    if_then P _ TwoHexDigits _ (λ h. (r.0, c, pair_d r.0 c r.1 h, open_more (92 ∷ 117 ∷ r.0 ∷ []) t c r.2)) (if_none P)
read_step TwoHexDigits t c r =
    let P = λ (p : State). IsRead p (t ++ c ∷ []) in
    if_then P _ ThreeHexDigits _ (λ h. (r.0, r.1, c, r.2, h, open_more (92 ∷ 117 ∷ r.0 ∷ r.1 ∷ []) t c r.3)) (if_none P)
read_step ThreeHexDigits t c r =
    let P = λ (p : State). IsRead p (t ++ c ∷ []) in
    if_then P _ InString _ (λ h. open_unit (92 ∷ 117 ∷ r.0 ∷ r.1 ∷ r.2 ∷ c ∷ []) (t ++ c ∷ [])
    (open_more (92 ∷ 117 ∷ r.0 ∷ r.1 ∷ r.2 ∷ []) t c r.5) (unicode (scalar_from r.0 r.1 r.2 c r.3 r.4 h)))
    (if_none P)
read_step (InBlock part) t c r = in_block_read part t c (block_step part c) refl r

-- what has been read after a run
pub read_run : (q : State) (t s : List ℕ) (p : State) → IsRead q t → run step q s ≡ Some p → IsRead p (t ++ s)
read_run = kept_run step IsRead read_step
