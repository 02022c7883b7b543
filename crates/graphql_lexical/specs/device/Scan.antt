-- A device, on which no definition rests: one token at the front of a rest, and a whole source, computed.
-- What it computes is what the definitions say: the laws `scan_is_exact` and `cut_is_exact`. Lexers are proved by it.
use Rattle.std.specs.Prelude.{ℕ, zero, suc, ◌+◌, ◌-◌, Bool, true, false, ◌&&◌, ◌||◌, List, [], ◌∷◌, length, take, drop, ◌==◌, nat_lt, nat_le, if◌then◌else◌, Option, Some, None, Result, Ok, Err, max, option_map}
use Rattle.graphql_lexical.specs.Characters.{is_source, is_white, is_comment_character, is_line_end, is_digit, is_nonzero_digit, is_name_start, is_name_character, is_exponent_mark, is_sign, is_hex, is_plain, is_escape}
use Rattle.graphql_lexical.specs.Place.{Place, place}
use Rattle.graphql_lexical.specs.Kinds.{Kind, Name, String, Float, Int, Ellipsis, EndOfFile, same_kind, LexicalError, UnknownCharacter, UnexpectedCharacter, UnterminatedString, UnknownCharacterInString, UnknownEscapeSequence, UnexpectedEndOfFile, BlockString}
use Rattle.graphql_lexical.specs.Tokens.{punctuator}
use Rattle.graphql_lexical.specs.device.Whole.{text_of}
use Rattle.graphql_lexical.specs.device.Indexed.{counted}
use Rattle.graphql_lexical.specs.Cutting.{Lexeme}
use Rattle.graphql_lexical.specs.device.Machines.{reach}
pub use Rattle.graphql_lexical.specs.declared.state.State.{State}
pub use Rattle.graphql_lexical.specs.declared.state.State.TheVariants.{Start, Done, OneDot, TwoDots, InName, Minus, Zero, Digits, Point, Fraction, ExponentMark, ExponentSign, Exponent, Quote, EmptyString, InString, Backslash, NoHexDigit, OneHexDigit, HexDigitD, TwoHexDigits, ThreeHexDigits, InBlock}
pub use Rattle.graphql_lexical.specs.declared.state.Block.{Block}
pub use Rattle.graphql_lexical.specs.declared.state.Block.TheVariants.{Inside, OneQuote, TwoQuotes, Escaping, EscapedQuote, EscapedQuotes, Closed}

-- ---- tokens

-- the digit of hexadecimal 13, which a surrogate's number begins with
abbrev pub is_hex_d : ℕ → Bool
is_hex_d c = c == 68 || c == 100

-- a digit below 8
abbrev pub is_octal : ℕ → Bool
is_octal c = nat_le 48 c && nat_le c 55

-- a character of a block string that doesn't continue quotes
abbrev pub block_other : ℕ → Option Block
block_other c = if c == 92 then Some Escaping else (if is_source c then Some Inside else None)

abbrev pub block_step : Block → ℕ → Option Block
block_step Inside c = if c == 34 then Some OneQuote else block_other c
block_step OneQuote c = if c == 34 then Some TwoQuotes else block_other c
block_step TwoQuotes c = if c == 34 then Some Closed else block_other c
block_step Escaping c = if c == 34 then Some EscapedQuote else block_other c
block_step EscapedQuote c = if c == 34 then Some EscapedQuotes else block_other c
block_step EscapedQuotes c = if c == 34 then Some Inside else block_other c
block_step Closed c = None

abbrev pub step : State → ℕ → Option State
step Start c =
    if is_nonzero_digit c then Some Digits
    else (if is_name_start c then Some InName
    else (if c == 48 then Some Zero
    else (if c == 45 then Some Minus
    else (if c == 46 then Some OneDot
    else (if c == 34 then Some Quote
    else option_map Done (punctuator c))))))
step (Done kind) c = None
step OneDot c = if c == 46 then Some TwoDots else None
step TwoDots c = if c == 46 then Some (Done Ellipsis) else None
step InName c = if is_name_character c then Some InName else None
step Minus c = if is_nonzero_digit c then Some Digits else (if c == 48 then Some Zero else None)
step Zero c = if c == 46 then Some Point else (if is_exponent_mark c then Some ExponentMark else None)
step Digits c = if is_digit c then Some Digits else (if c == 46 then Some Point else (if is_exponent_mark c then Some ExponentMark else None))
step Point c = if is_digit c then Some Fraction else None
step Fraction c = if is_digit c then Some Fraction else (if is_exponent_mark c then Some ExponentMark else None)
step ExponentMark c = if is_digit c then Some Exponent else (if is_sign c then Some ExponentSign else None)
step ExponentSign c = if is_digit c then Some Exponent else None
step Exponent c = if is_digit c then Some Exponent else None
step Quote c = if is_plain c then Some InString else (if c == 34 then Some EmptyString else (if c == 92 then Some Backslash else None))
step EmptyString c = if c == 34 then Some (InBlock Inside) else None
step InString c = if is_plain c then Some InString else (if c == 34 then Some (Done String) else (if c == 92 then Some Backslash else None))
step Backslash c = if is_escape c then Some InString else (if c == 117 then Some NoHexDigit else None)
step NoHexDigit c = if is_hex_d c then Some HexDigitD else (if is_hex c then Some OneHexDigit else None)
step OneHexDigit c = if is_hex c then Some TwoHexDigits else None
step HexDigitD c = if is_octal c then Some TwoHexDigits else None
step TwoHexDigits c = if is_hex c then Some ThreeHexDigits else None
step ThreeHexDigits c = if is_hex c then Some InString else None
step (InBlock part) c = option_map InBlock (block_step part c)

pub record Found : Type 0 where
  pub size : ℕ
  pub kind : Kind
  pub text : List ℕ

pub record Missed : Type 0 where
  pub at : ℕ
  pub error : LexicalError

abbrev pub found : ℕ → Kind → List ℕ → Result Found Missed
found n kind rest = Ok (record { size = n; kind = kind; text = text_of kind (take n rest) })

abbrev pub missed : ℕ → LexicalError → Result Found Missed
missed n error = Err (record { at = n; error = error })

-- what isn't a number after all
abbrev pub stopped : ℕ → List ℕ → Result Found Missed
stopped n [] = missed n UnexpectedEndOfFile
stopped n (c ∷ after) = missed n (UnexpectedCharacter c)

-- a zero is alone
abbrev pub after_zero : ℕ → List ℕ → List ℕ → Result Found Missed
after_zero n rest [] = found n Int rest
after_zero n rest (c ∷ after) = if is_digit c then missed n (UnexpectedCharacter c) else found n Int rest

abbrev pub after_dots : ℕ → List ℕ → Result Found Missed
after_dots n [] = missed n UnexpectedEndOfFile
after_dots n (c ∷ after) = missed 0 (UnexpectedCharacter 46)

abbrev pub after_units : ℕ → List ℕ → Result Found Missed
after_units n [] = missed n UnterminatedString
after_units n (c ∷ after) = if is_line_end c then missed n UnterminatedString else missed n (UnknownCharacterInString c)

abbrev pub after_block : ℕ → List ℕ → Result Found Missed
after_block n [] = missed n UnterminatedString
after_block n (c ∷ after) = missed n (UnknownCharacterInString c)

abbrev pub after_backslash : ℕ → List ℕ → Result Found Missed
after_backslash n [] = missed n UnterminatedString
after_backslash n (c ∷ after) = missed n (UnknownEscapeSequence (92 ∷ c ∷ []))

-- after the `u` at place u
abbrev pub after_u : ℕ → List ℕ → Result Found Missed
after_u u after =
    if nat_lt (counted after) 4 && counted after == length after then missed (suc u + length after) UnterminatedString
    else missed u (UnknownEscapeSequence (92 ∷ 117 ∷ take (max 1 (counted after)) after))

abbrev pub answer_in_block : Block → ℕ → List ℕ → Result Found Missed
answer_in_block Inside n rest = after_block n (drop n rest)
answer_in_block OneQuote n rest = after_block n (drop n rest)
answer_in_block TwoQuotes n rest = after_block n (drop n rest)
answer_in_block Escaping n rest = after_block n (drop n rest)
answer_in_block EscapedQuote n rest = after_block n (drop n rest)
answer_in_block EscapedQuotes n rest = after_block n (drop n rest)
answer_in_block Closed n rest = found n BlockString rest

abbrev pub answer : State → ℕ → List ℕ → Result Found Missed
answer Start n [] = found 0 EndOfFile []
answer Start n (c ∷ cs) = missed 0 (UnknownCharacter c)
answer (Done kind) n rest = found n kind rest
answer OneDot n rest = after_dots n (drop n rest)
answer TwoDots n rest = after_dots n (drop n rest)
answer InName n rest = found n Name rest
answer Minus n rest = stopped n (drop n rest)
answer Zero n rest = after_zero n rest (drop n rest)
answer Digits n rest = found n Int rest
answer Point n rest = stopped n (drop n rest)
answer Fraction n rest = found n Float rest
answer ExponentMark n rest = stopped n (drop n rest)
answer ExponentSign n rest = stopped n (drop n rest)
answer Exponent n rest = found n Float rest
answer Quote n rest = after_units n (drop n rest)
answer EmptyString n rest = found n String rest
answer InString n rest = after_units n (drop n rest)
answer Backslash n rest = after_backslash n (drop n rest)
answer NoHexDigit n rest = after_u (n - 1) (drop (n - 0) rest)
answer OneHexDigit n rest = after_u (n - 2) (drop (n - 1) rest)
answer HexDigitD n rest = after_u (n - 2) (drop (n - 1) rest)
answer TwoHexDigits n rest = after_u (n - 3) (drop (n - 2) rest)
answer ThreeHexDigits n rest = after_u (n - 4) (drop (n - 3) rest)
answer (InBlock part) n rest = answer_in_block part n rest

-- the token at the front of the rest, or the lexical error there
abbrev pub scan : List ℕ → Result Found Missed
scan rest = let r = reach step Start rest in answer r.1 r.0 rest

-- ---- sources

-- whether the ignored tokens end within a comment
abbrev pub ignored_step : Bool → ℕ → Option Bool
ignored_step true c =
    if is_comment_character c then Some true
    else (if is_white c then Some false else (if c == 35 then Some true else None))
ignored_step false c = if is_white c then Some false else (if c == 35 then Some true else None)

abbrev pub ignored_size : List ℕ → ℕ
ignored_size rest = (reach ignored_step false rest).0

pub record Broken : Type 0 where
  pub at : Place
  pub error : LexicalError

abbrev pub with_first : Lexeme → Result (List Lexeme) Broken → Result (List Lexeme) Broken
with_first x (Ok xs) = Ok (x ∷ xs)
with_first x (Err e) = Err e

abbrev pub is_end : Kind → Bool
is_end kind = same_kind kind EndOfFile

abbrev pub lexeme_at : List ℕ → ℕ → Found → Lexeme
lexeme_at source j f = record { kind = f.kind; text = f.text; span = record { start = place source j; end = place source (j + f.size) } }

-- the token at place j, and what follows it
abbrev pub last_or : List ℕ → ℕ → (ℕ → Result (List Lexeme) Broken) → Found → Bool → Result (List Lexeme) Broken
last_or source j go f true = Ok (lexeme_at source j f ∷ [])
last_or source j go f false = with_first (lexeme_at source j f) (go (j + f.size))

abbrev pub next_cut : List ℕ → ℕ → (ℕ → Result (List Lexeme) Broken) → Result Found Missed → Result (List Lexeme) Broken
next_cut source j go (Ok f) = last_or source j go f (is_end f.kind)
next_cut source j go (Err m) = Err (record { at = place source (j + m.at); error = m.error })

-- from place k on, in at most this many tokens
abbrev pub cut_from : ℕ → List ℕ → ℕ → Result (List Lexeme) Broken
cut_from zero source k = Ok []
cut_from (suc fuel) source k =
    let j = k + ignored_size (drop k source) in
    next_cut source j (λ next. cut_from fuel source next) (scan (drop j source))

-- the source's tokens, or its first lexical error
abbrev pub cut_of : List ℕ → Result (List Lexeme) Broken
cut_of source = cut_from (suc (length source)) source 0
