-- The steps of a token are the same at each character past ASCII.
use Rattle.std.proofs.Common.{◌≡◌, ℕ, ◌≤◌, ◌<◌, Bool, true, false, ◌==◌, Option, Some, None, refl, sym, ap, ◌∙◌, arith}
use Rattle.std.specs.Prelude.{option_map}
use Rattle.graphql_lexical.specs.declared.state.State.{State}
use Rattle.graphql_lexical.specs.declared.state.State.TheVariants.{Start, Done, OneDot, TwoDots, InName, Minus, Zero, Digits, Point, Fraction, ExponentMark, ExponentSign, Exponent, Quote, EmptyString, InString, Backslash, NoHexDigit, OneHexDigit, HexDigitD, TwoHexDigits, ThreeHexDigits, InBlock}
use Rattle.graphql_lexical.specs.declared.state.Block.{Block}
use Rattle.graphql_lexical.specs.declared.state.Block.TheVariants.{Inside, OneQuote, TwoQuotes, Escaping, EscapedQuote, EscapedQuotes, Closed}
use Rattle.graphql_lexical.specs.device.Scan.{step, block_step, block_other, is_hex_d, is_octal}
use Rattle.graphql_lexical.specs.Characters.{is_source, is_nonzero_digit, is_digit, is_name_start, is_name_character, is_exponent_mark, is_sign, is_escape, is_hex, is_plain}
use Rattle.graphql_lexical.specs.Tokens.{punctuator}
use Rattle.juniper_tokens.specs.device.ByteRuns.{IsSamePastAscii}

punctuator_past : (c : ℕ) → 128 ≤ c → punctuator c ≡ None
punctuator_past c l = grind arith

other_than : (c k : ℕ) → 128 ≤ c → k < 128 → (c == k) ≡ false
other_than c k l m = grind arith

source_past : (c : ℕ) → 128 ≤ c → is_source c ≡ true
source_past c l = grind arith

first_past : (c : ℕ) → 128 ≤ c → step Start c ≡ None
first_past c l = rw (
  nonzero,
  name,
  other_than c 48 l (omega arith),
  other_than c 45 l (omega arith),
  other_than c 46 l (omega arith),
  other_than c 34 l (omega arith),
  punctuator_past c l,
) refl
  where
    nonzero : is_nonzero_digit c ≡ false
    nonzero = grind arith

    name : is_name_start c ≡ false
    name = grind arith

other_past : (c : ℕ) → 128 ≤ c → block_other c ≡ Some Inside
other_past c l = rw (other_than c 92 l (omega arith), source_past c l) refl

-- the step in a block string at a character past ASCII
abbrev past_block : Block → Option Block
past_block Closed = None
past_block _ = Some Inside

block_past : (part : Block) (c : ℕ) → 128 ≤ c → block_step part c ≡ past_block part
block_past Inside c l = rw (other_than c 34 l (omega arith)) (other_past c l)
block_past OneQuote c l = rw (other_than c 34 l (omega arith)) (other_past c l)
block_past TwoQuotes c l = rw (other_than c 34 l (omega arith)) (other_past c l)
block_past Escaping c l = rw (other_than c 34 l (omega arith)) (other_past c l)
block_past EscapedQuote c l = rw (other_than c 34 l (omega arith)) (other_past c l)
block_past EscapedQuotes c l = rw (other_than c 34 l (omega arith)) (other_past c l)
block_past Closed c l = refl

-- a state at which the token doesn't go on past ASCII
abbrev ends_past : State → Bool
ends_past Start = false
ends_past (Done kind) = false
ends_past (InBlock part) = false
ends_past Quote = false
ends_past InString = false
ends_past _ = true

no_digit : (c : ℕ) → 128 ≤ c → is_digit c ≡ false
no_digit c l = grind arith

no_nonzero : (c : ℕ) → 128 ≤ c → is_nonzero_digit c ≡ false
no_nonzero c l = grind arith

no_name : (c : ℕ) → 128 ≤ c → is_name_character c ≡ false
no_name c l = grind arith

no_mark : (c : ℕ) → 128 ≤ c → is_exponent_mark c ≡ false
no_mark c l = grind arith

no_sign : (c : ℕ) → 128 ≤ c → is_sign c ≡ false
no_sign c l = grind arith

no_escape : (c : ℕ) → 128 ≤ c → is_escape c ≡ false
no_escape c l = grind arith

no_hex : (c : ℕ) → 128 ≤ c → is_hex c ≡ false
no_hex c l = grind arith

no_hex_d : (c : ℕ) → 128 ≤ c → is_hex_d c ≡ false
no_hex_d c l = grind arith

no_octal : (c : ℕ) → 128 ≤ c → is_octal c ≡ false
no_octal c l = grind arith

none_past : (q : State) → ends_past q ≡ true → (c : ℕ) → 128 ≤ c → step q c ≡ None
none_past OneDot e c l = rw (other_than c 46 l (omega arith)) refl
none_past TwoDots e c l = rw (other_than c 46 l (omega arith)) refl
none_past InName e c l = rw (no_name c l) refl
none_past Minus e c l = rw (no_nonzero c l, other_than c 48 l (omega arith)) refl
none_past Zero e c l = rw (other_than c 46 l (omega arith), no_mark c l) refl
none_past Digits e c l = rw (no_digit c l, other_than c 46 l (omega arith), no_mark c l) refl
none_past Point e c l = rw (no_digit c l) refl
none_past Fraction e c l = rw (no_digit c l, no_mark c l) refl
none_past ExponentMark e c l = rw (no_digit c l, no_sign c l) refl
none_past ExponentSign e c l = rw (no_digit c l) refl
none_past Exponent e c l = rw (no_digit c l) refl
none_past EmptyString e c l = rw (other_than c 34 l (omega arith)) refl
none_past Backslash e c l = rw (no_escape c l, other_than c 117 l (omega arith)) refl
none_past NoHexDigit e c l = rw (no_hex_d c l, no_hex c l) refl
none_past OneHexDigit e c l = rw (no_hex c l) refl
none_past HexDigitD e c l = rw (no_octal c l) refl
none_past TwoHexDigits e c l = rw (no_hex c l) refl
none_past ThreeHexDigits e c l = rw (no_hex c l) refl
none_past _ e c l = absurd (cc e)

abbrev goes_past : State → Bool
goes_past Quote = true
goes_past InString = true
goes_past _ = false

plain_past : (c : ℕ) → 128 ≤ c → is_plain c ≡ true
plain_past c l = grind arith

string_past : (q : State) → goes_past q ≡ true → (c : ℕ) → 128 ≤ c → step q c ≡ Some InString
string_past Quote e c l = rw (plain_past c l) refl
string_past InString e c l = rw (plain_past c l) refl
string_past _ e c l = absurd (cc e)

pub step_same : IsSamePastAscii step
step_same Start c d l m = first_past c l ∙ sym (first_past d m)
step_same (Done kind) c d l m = refl
step_same (InBlock part) c d l m = ap (option_map InBlock) (block_past part c l ∙ sym (block_past part d m))
step_same OneDot c d l m = none_past OneDot refl c l ∙ sym (none_past OneDot refl d m)
step_same TwoDots c d l m = none_past TwoDots refl c l ∙ sym (none_past TwoDots refl d m)
step_same InName c d l m = none_past InName refl c l ∙ sym (none_past InName refl d m)
step_same Minus c d l m = none_past Minus refl c l ∙ sym (none_past Minus refl d m)
step_same Zero c d l m = none_past Zero refl c l ∙ sym (none_past Zero refl d m)
step_same Digits c d l m = none_past Digits refl c l ∙ sym (none_past Digits refl d m)
step_same Point c d l m = none_past Point refl c l ∙ sym (none_past Point refl d m)
step_same Fraction c d l m = none_past Fraction refl c l ∙ sym (none_past Fraction refl d m)
step_same ExponentMark c d l m = none_past ExponentMark refl c l ∙ sym (none_past ExponentMark refl d m)
step_same ExponentSign c d l m = none_past ExponentSign refl c l ∙ sym (none_past ExponentSign refl d m)
step_same Exponent c d l m = none_past Exponent refl c l ∙ sym (none_past Exponent refl d m)
step_same EmptyString c d l m = none_past EmptyString refl c l ∙ sym (none_past EmptyString refl d m)
step_same Backslash c d l m = none_past Backslash refl c l ∙ sym (none_past Backslash refl d m)
step_same NoHexDigit c d l m = none_past NoHexDigit refl c l ∙ sym (none_past NoHexDigit refl d m)
step_same OneHexDigit c d l m = none_past OneHexDigit refl c l ∙ sym (none_past OneHexDigit refl d m)
step_same HexDigitD c d l m = none_past HexDigitD refl c l ∙ sym (none_past HexDigitD refl d m)
step_same TwoHexDigits c d l m = none_past TwoHexDigits refl c l ∙ sym (none_past TwoHexDigits refl d m)
step_same ThreeHexDigits c d l m = none_past ThreeHexDigits refl c l ∙ sym (none_past ThreeHexDigits refl d m)
step_same Quote c d l m = string_past Quote refl c l ∙ sym (string_past Quote refl d m)
step_same InString c d l m = string_past InString refl c l ∙ sym (string_past InString refl d m)
