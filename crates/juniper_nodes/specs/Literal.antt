-- What `Literal` states of itself: each token's kind and text, and what it means.
use Rattle.std.specs.Prelude.{ℤ, pos, unsigned_abs, ◌||◌, if◌then◌else◌, List, [], ◌∷◌, ◌++◌, length, drop, map, Bool, Option, Some, None, Ok, Err}
use Rattle.std.specs.Ordering.{int_eq}
use Rattle.graphql_lexical.specs.declared.kind.Kind.{Kind}
use Rattle.graphql_lexical.specs.Kinds.{Spelling, Names, Strings, BlockStrings, Floats, Ints, Fixed, NoText, spelling}
use Rattle.juniper_values.specs.Text.{Text}
use Rattle.juniper_values.specs.Scalar.{Content, integer, text, boolean, custom, Reading}
use Rattle.juniper_values.specs.Default.{default_content, default_reading}
use Rattle.juniper_values.specs.BesideDefault.{int_beside, str_beside, string_beside, shown_beside}
use Rattle.juniper_values.specs.View.{text_of}
use Rattle.juniper_nodes.specs.declared.literal.Literal.{Literal}
use Rattle.juniper_nodes.specs.declared.literal.Literal.TheVariants as scalar

-- ---- contents: a number for the kind, and what is kept

-- an Int of 32 bits: its number, and its text
abbrev pub of_int : ℤ → Text → Content
of_int n t = custom (pos 0 ∷ n ∷ map pos t)

-- an Int beyond, and a Float: its text
abbrev pub of_large_int : Text → Content
of_large_int t = custom (pos 1 ∷ map pos t)

abbrev pub of_float : Text → Content
of_float t = custom (pos 2 ∷ map pos t)

-- a String, and a block string: how long its text is, its text, and what it means
abbrev pub of_string : Text → Text → Content
of_string t meaning = custom (pos 3 ∷ pos (length t) ∷ map pos (t ++ meaning))

abbrev pub of_block : Text → Text → Content
of_block t meaning = custom (pos 4 ∷ pos (length t) ∷ map pos (t ++ meaning))

abbrev pub literal_content : Literal → Content
literal_content (scalar.Default s) = default_content s
literal_content (scalar.Int n) = of_int n.value (text_of n.written)
literal_content (scalar.LargeInt t) = of_large_int (text_of t)
literal_content (scalar.Float t) = of_float (text_of t)
literal_content (scalar.String s) = of_string (text_of s.written) (text_of s.value)
literal_content (scalar.BlockString s) = of_block (text_of s.written) (text_of s.value)

-- ---- what contents say

abbrev pub characters : List ℤ → Text
characters ns = map unsigned_abs ns

-- what stands after the text of a string
abbrev pub meaning : List ℤ → Text
meaning [] = []
meaning (n ∷ ns) = drop (unsigned_abs n) (characters ns)

-- the kinds of strings
abbrev pub is_string : ℤ → Bool
is_string kind = int_eq kind (pos 3) || int_eq kind (pos 4)

-- what a token shows: a String what it means, a number its text
abbrev pub own_text : List ℤ → Text
own_text [] = []
own_text (kind ∷ ns) =
    if is_string kind then meaning ns
    else if int_eq kind (pos 0) then characters (drop 1 ns)
    else characters ns

abbrev pub literal_shown : Content → Text
literal_shown = shown_beside own_text

-- the number of 32 bits
abbrev pub number_of : List ℤ → Option ℤ
number_of [] = None
number_of (kind ∷ []) = None
number_of (kind ∷ n ∷ ns) = if int_eq kind (pos 0) then Some n else None

abbrev pub int_in : Content → Option ℤ
int_in = int_beside number_of

-- the text that a String means
abbrev pub meaning_of : List ℤ → Option Text
meaning_of [] = None
meaning_of (kind ∷ ns) = if is_string kind then Some (meaning ns) else None

abbrev pub str_in : Content → Option Text
str_in = str_beside meaning_of

-- the same, and a number's text
abbrev pub string_in : Content → Option Text
string_in = string_beside own_text

-- ---- readings

-- an Int, by the default type's reading
abbrev pub int_reading : Text → Reading → Reading
int_reading t (Ok (integer n)) = Ok (of_int n t)
int_reading t (Ok (text u)) = Ok (text u)
int_reading t (Ok (boolean b)) = Ok (boolean b)
int_reading t (Ok (custom ns)) = Ok (custom ns)
int_reading t (Err e) = Ok (of_large_int t)

-- a string, by the default type's reading
abbrev pub string_reading : (Text → Content) → Reading → Reading
string_reading of (Ok (integer n)) = Ok (integer n)
string_reading of (Ok (text u)) = Ok (of u)
string_reading of (Ok (boolean b)) = Ok (boolean b)
string_reading of (Ok (custom ns)) = Ok (custom ns)
string_reading of (Err e) = Err e

-- A Float is kept as it is written. Of an Int, a String and a block string the default type reads what it means; an Int
-- that it refuses is one beyond 32 bits, a String that it refuses is refused. No other token is read.
abbrev pub literal_by : Spelling → Kind → Text → Reading
literal_by Names k t = default_reading k t
literal_by Strings k t = string_reading (of_string t) (default_reading k t)
literal_by BlockStrings k t = string_reading (of_block t) (default_reading k t)
literal_by Floats k t = Ok (of_float t)
literal_by Ints k t = int_reading t (default_reading k t)
literal_by (Fixed fixed) k t = default_reading k t
literal_by NoText k t = default_reading k t

-- The reading of a token by its kind and its text.
abbrev pub literal_reading : Kind → Text → Reading
literal_reading k t = literal_by (spelling k) k t
