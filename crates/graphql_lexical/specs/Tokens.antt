-- Which texts are tokens.
use Rattle.std.specs.Prelude.{◌≡◌, ◌≢◌, ℕ, List, [], ◌∷◌, ◌++◌, IsTrue, ◌==◌, Option, Bool, false, codes}
use Rattle.std.specs.List.{AllByRecursion, concat, find}
use Rattle.std.specs.Option.{option_map_or}
use Rattle.graphql_lexical.specs.Parts.{◌·◌, ◌or◌, Nothing}
use Rattle.graphql_lexical.specs.Characters.{Text, is_source, is_digit, is_nonzero_digit, is_name_start, is_name_character, is_among, is_hex, is_plain, is_escape}
use Rattle.graphql_lexical.specs.Kinds.{Kind, Name, String, BlockString, Float, Int, ExclamationMark, Dollar, ParenOpen, ParenClose, BracketOpen, BracketClose, CurlyOpen, CurlyClose, Ellipsis, Colon, Equals, At, Pipe, EndOfFile, all_kinds, Spelling, Names, Strings, BlockStrings, Floats, Ints, Fixed, NoText, spelling, character_of}

-- P?
abbrev pub Maybe : (List ℕ → Type 0) → List ℕ → Type 0
Maybe P = Nothing or P

-- these characters
abbrev pub These : List ℕ → List ℕ → Type 0
These text t = t ≡ text

-- one character that is so
abbrev pub One : (ℕ → Bool) → List ℕ → Type 0
One is text = (c : ℕ) × (text ≡ c ∷ []) × IsTrue (is c)

-- any number of characters that are so
abbrev pub Any : (ℕ → Bool) → List ℕ → Type 0
Any is = AllByRecursion (λ c. IsTrue (is c))

-- P*
abbrev pub Pieces : (List ℕ → Type 0) → List ℕ → Type 0
Pieces P text = (pieces : List (List ℕ)) × AllByRecursion P pieces × (text ≡ concat pieces)

-- ---- names and numbers

-- Name = (letter | "_") (letter | "_" | digit)*
abbrev pub IsName : List ℕ → Type 0
IsName = One is_name_start · Any is_name_character

-- digit+
abbrev pub AreDigits : List ℕ → Type 0
AreDigits = One is_digit · Any is_digit

-- "0" | "-0"
abbrev pub IsZero : List ℕ → Type 0
IsZero = These (codes "0") or These (codes "-0")

-- Int = "-"? ("0" | nonzero-digit digit*)
abbrev pub IsInteger : List ℕ → Type 0
IsInteger = Maybe (These (codes "-")) · (These (codes "0") or One is_nonzero_digit · Any is_digit)

-- "." digit+
abbrev pub IsFraction : List ℕ → Type 0
IsFraction = These (codes ".") · AreDigits

-- ("e" | "E") ("+" | "-")? digit+
abbrev pub IsExponent : List ℕ → Type 0
IsExponent = One (is_among (codes "eE")) · Maybe (One (is_among (codes "+-"))) · AreDigits

-- Float = Int Fraction | Int Fraction? Exponent
abbrev pub IsFloat : List ℕ → Type 0
IsFloat = IsInteger · (IsFraction or Maybe IsFraction · IsExponent)

-- ---- strings

-- Four hexadecimal digits, where a D comes before an octal digit: their number isn't from D800 to DFFF. October 2021
-- (section 2.9.4) takes any four; here a surrogate is no character.
abbrev pub AreScalarDigits : ℕ → ℕ → ℕ → ℕ → Type 0
AreScalarDigits h i j k = Any is_hex (h ∷ i ∷ j ∷ k ∷ [])
    × (IsTrue (is_among (codes "Dd") h) → IsTrue (is_among (codes "01234567") i))

-- what a string is made of
pub data IsUnit : List ℕ → Type 0 where
  plain : {c : ℕ} → IsTrue (is_plain c) → IsUnit (c ∷ [])
  escape : {c : ℕ} → IsTrue (is_escape c) → IsUnit (codes "\\" ++ c ∷ [])
  unicode : {h i j k : ℕ} → AreScalarDigits h i j k → IsUnit (codes "\\u" ++ h ∷ i ∷ j ∷ k ∷ [])

-- ---- block strings

-- a triple quote
abbrev pub mark : List ℕ
mark = codes "\"\"\""

-- neither a triple quote nor a backslash and a triple quote begin there
abbrev pub BeginsNoMark : Text → Type 0
BeginsNoMark text = (rest : Text) → (text ≢ mark ++ rest) × (text ≢ codes "\\" ++ (mark ++ rest))

-- The text is block units, where `after` follows it: a unit is a backslash and a triple quote, or one source character
-- at which neither these nor a triple quote begin.
pub data AreBlockUnits : List ℕ → List ℕ → Type 0 where
  nothing : {after : List ℕ} → AreBlockUnits [] after
  escaped_mark : {units after : List ℕ} → AreBlockUnits units after
      → AreBlockUnits (codes "\\" ++ (mark ++ units)) after
  character : {c : ℕ} {units after : List ℕ} → IsTrue (is_source c) → BeginsNoMark (c ∷ units ++ after)
      → AreBlockUnits units after → AreBlockUnits (c ∷ units) after

-- ---- tokens

-- The whole text is a token of this kind and this text: a string's text is what stands between its quotes, a block
-- string's what stands between its triple quotes, and any other token's is the whole. The end has no text. `&` (October
-- 2021, section 2.1.8), which only type system documents have, is no token here.
abbrev pub Spells : Text → Kind → Text → Type 0
Spells whole Name text = IsName whole × (text ≡ whole)
Spells whole String text = (whole ≡ codes "\"" ++ (text ++ codes "\"")) × Pieces IsUnit text
Spells whole BlockString text = (whole ≡ mark ++ (text ++ mark)) × AreBlockUnits text mark
Spells whole Float text = IsFloat whole × (text ≡ whole)
Spells whole Int text = IsInteger whole × (text ≡ whole)
Spells whole ExclamationMark text = (whole ≡ codes "!") × (text ≡ whole)
Spells whole Dollar text = (whole ≡ codes "$") × (text ≡ whole)
Spells whole ParenOpen text = (whole ≡ codes "(") × (text ≡ whole)
Spells whole ParenClose text = (whole ≡ codes ")") × (text ≡ whole)
Spells whole BracketOpen text = (whole ≡ codes "[") × (text ≡ whole)
Spells whole BracketClose text = (whole ≡ codes "]") × (text ≡ whole)
Spells whole CurlyOpen text = (whole ≡ codes "{") × (text ≡ whole)
Spells whole CurlyClose text = (whole ≡ codes "}") × (text ≡ whole)
Spells whole Ellipsis text = (whole ≡ codes "...") × (text ≡ whole)
Spells whole Colon text = (whole ≡ codes ":") × (text ≡ whole)
Spells whole Equals text = (whole ≡ codes "=") × (text ≡ whole)
Spells whole At text = (whole ≡ codes "@") × (text ≡ whole)
Spells whole Pipe text = (whole ≡ codes "|") × (text ≡ whole)
Spells whole EndOfFile text = ⊥

-- each token of this kind is this character
abbrev pub is_character : ℕ → Kind → Bool
is_character c kind = option_map_or (λ d. c == d) (character_of kind) false

-- the punctuator that this character is
abbrev pub punctuator : ℕ → Option Kind
punctuator c = find (is_character c) all_kinds

-- what stands on each side of a text that is spelled so
abbrev pub quotes : Spelling → List ℕ
quotes Names = []
quotes Strings = codes "\""
quotes BlockStrings = mark
quotes Floats = []
quotes Ints = []
quotes (Fixed fixed) = []
quotes NoText = []

-- a text between the same quotes
abbrev pub around : List ℕ → List ℕ → List ℕ
around [] text = text
around (q ∷ qs) text = q ∷ qs ++ (text ++ q ∷ qs)

-- how a token of this kind and text is written: a String's text between quotes, a block string's between triple quotes,
-- the end as nothing
abbrev pub written : Kind → List ℕ → List ℕ
written kind text = around (quotes (spelling kind)) text

-- some token begins with the text
abbrev pub Starts : List ℕ → Type 0
Starts front = (more : List ℕ) × (kind : Kind) × (text : List ℕ) × Spells (front ++ more) kind text

-- an Int or a Float
abbrev pub IsNumber : List ℕ → Type 0
IsNumber = IsInteger or IsFloat

-- some Int or Float begins with the text
abbrev pub StartsNumber : List ℕ → Type 0
StartsNumber text = (more : List ℕ) × IsNumber (text ++ more)
