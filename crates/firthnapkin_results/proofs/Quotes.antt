-- Which tokens a quote begins, and what is shown of each.
use Rattle.std.proofs.Common.{◌≡◌, ◌≢◌, ◌∙◌, ◌⊎◌, ℕ, ◌==◌, Bool, true, false, not, List, [], ◌∷◌, ◌++◌, length, inl, inr, refl, sym, ap, ap₂, subst, arith, codes, get_or, length-append, append-nil}
use Rattle.std.specs.Prelude.{◌<◌, IsTrue, encode_utf8_all}
use Rattle.std.specs.Str.{chars, IsUtf8}
use Rattle.std.proofs.lemmas.Str.{chars-append, chars-encodes, chars_past_char, char_from_byte, encodes-append, encodes-chars, length-le-encodes}
use lib.Utf8.{encode}
use Rattle.std.specs.List.{AllByRecursion, concat}
use Rattle.std.proofs.lemmas.Bool.Decides.{nat_tests}
use Rattle.graphql_lexical.specs.Characters.{Text, is_name_start, is_nonzero_digit, is_plain}
use Rattle.graphql_lexical.specs.Display.{shown}
use Rattle.graphql_lexical.specs.declared.kind.Kind.{Kind}
use Rattle.graphql_lexical.specs.declared.kind.Kind.TheVariants.{Name, String, BlockString, EndOfFile}
use Rattle.graphql_lexical.specs.Kinds.{Spelling, Names, Strings, BlockStrings, Floats, Ints, Fixed, NoText, spelling}
use Rattle.graphql_lexical.specs.Tokens.{Spells, IsName, IsInteger, IsFloat, Pieces, IsUnit, plain, escape, unicode, mark, quotes}
use Rattle.graphql_lexical.specs.device.Numbers.{ReadInteger}
use Rattle.graphql_lexical.specs.device.Whole.{Admits, between}
use Rattle.firthnapkin_results.specs.Messages.{IsQuoted}
use Rattle.graphql_lexical.proofs.Public.{name_same, integer_same, spells_token, unquoted}

abbrev first : List ℕ → ℕ
first [] = 0
first (c ∷ cs) = c

first_same : (c d : ℕ) (s t : List ℕ) → c ∷ s ≡ d ∷ t → c ≡ d
first_same c d s t e = ap first e

-- a first character, which is no quote
abbrev pub BeginsOther : Text → Type 0
BeginsOther text = (c : ℕ) × (cs : Text) × (text ≡ c ∷ cs) × (c ≢ 34)

goes_on : (front back : Text) → BeginsOther front → BeginsOther (front ++ back)
goes_on front back (c, cs, e, n) = (c, cs ++ back, ap (λ t. t ++ back) e, n)

no_quote : (text : Text) → BeginsOther text → (rest : Text) → text ≢ codes "\"" ++ rest
no_quote text (c, cs, e, n) rest f = n (first_same c 34 cs rest (sym e ∙ f))

-- ---- tokens that no quote begins

name_other : (c : ℕ) → IsTrue (is_name_start c) → c ≢ 34
name_other c h e = grind (arith, nat_tests)

digit_other : (c : ℕ) → IsTrue (is_nonzero_digit c) → c ≢ 34
digit_other c h e = grind (arith, nat_tests)

plain_other : (c : ℕ) → IsTrue (is_plain c) → c ≢ 34
plain_other c h e = grind (arith, nat_tests)

name_begins : (t : Text) → IsName t → BeginsOther t
name_begins t h = let r = (name_same t).0 h in (r.0, r.1, r.2, name_other r.0 r.3)

zero_other : (c : ℕ) → c ≡ 48 → c ≢ 34
zero_other c e f = omega (arith, e, f)

minus_other : (c : ℕ) → c ≡ 45 → c ≢ 34
minus_other c e f = omega (arith, e, f)

read_begins : (t : Text) → ReadInteger t → BeginsOther t
read_begins t (inl (inl e)) = (48, [], e, zero_other 48 refl)
read_begins t (inl (inr e)) = (45, codes "0", e, minus_other 45 refl)
read_begins t (inr (sign, d, ds, e, inl s, n, h)) = (d, ds, e ∙ ap (λ t. t ++ d ∷ ds) s, digit_other d n)
read_begins t (inr (sign, d, ds, e, inr s, n, h)) = (45, d ∷ ds, e ∙ ap (λ t. t ++ d ∷ ds) s, minus_other 45 refl)

integer_begins : (t : Text) → IsInteger t → BeginsOther t
integer_begins t h = read_begins t ((integer_same t).0 h)

float_begins : (t : Text) → IsFloat t → BeginsOther t
float_begins t h = subst BeginsOther (sym h.whole) (goes_on h.front h.back (integer_begins h.front h.first))

-- ---- strings

unit_begins : (t : Text) → IsUnit t → BeginsOther t
unit_begins _ (plain {c} h) = (c, [], refl, plain_other c h)
unit_begins _ (escape {c} h) = (92, c ∷ [], refl, λ e. omega (arith, e))
unit_begins _ (unicode {h} {i} {j} {k} s) = (92, 117 ∷ h ∷ i ∷ j ∷ k ∷ [], refl, λ e. omega (arith, e))

units_begin : (units : List Text) → AllByRecursion IsUnit units → (rest : Text) → concat units ≢ codes "\"" ++ rest
units_begin [] h rest e = absurd (omega (arith, ap length e))
units_begin (unit ∷ units) h rest e = no_quote (unit ++ concat units)
    (goes_on unit (concat units) (unit_begins unit h.0)) rest e

string_quoted : (whole text : Text) → whole ≡ codes "\"" ++ (text ++ codes "\"") → Pieces IsUnit text
    → IsQuoted whole text
string_quoted whole text e (units, h, f) =
    (e, λ rest g. units_begin units h rest (sym f ∙ g))

not_quoted : (whole : Text) → BeginsOther whole → (text : Text) → IsQuoted whole text → ⊥
not_quoted whole b text q = no_quote whole b (text ++ codes "\"") q.0

block_not_quoted : (whole text : Text) → whole ≡ mark ++ (text ++ mark) → (t : Text) → IsQuoted whole t → ⊥
block_not_quoted whole text e [] q = absurd (omega (arith, ap length (sym e ∙ q.0), length-append text mark))
block_not_quoted whole text e (c ∷ cs) q = q.1 cs (ap (λ d. d ∷ cs) (quote_first c _ _ (sym q.0 ∙ e)))
  where
    quote_first : (c : ℕ) (s t : Text) → 34 ∷ c ∷ s ≡ 34 ∷ 34 ∷ t → c ≡ 34
    quote_first c s t e = first_same c 34 s t (ap rest_of e)
      where
        rest_of : Text → Text
        rest_of [] = []
        rest_of (c ∷ cs) = cs

-- ---- what is shown

-- Of a String the text between its quotes, with escapes; of any other token all of it.
abbrev pub IsShown : Text → Text → Text → Type 0
IsShown whole text seen =
    (IsQuoted whole text × (seen ≡ shown String text)) ⊎ (((t : Text) → IsQuoted whole t → ⊥) × (seen ≡ whole))

-- what is shown of a token's text, by how the token is spelled
abbrev shown_as : Spelling → Text → Text
shown_as Names text = text
shown_as Strings text = shown String text
shown_as BlockStrings text = shown BlockString text
shown_as Floats text = text
shown_as Ints text = text
shown_as (Fixed fixed) text = text
shown_as NoText text = shown EndOfFile text

by_spelling : (kind : Kind) (text : Text) → shown kind text ≡ shown_as (spelling kind) text
by_spelling Name text = refl
by_spelling _ text = refl

-- no fixed text begins with a quote
begins_otherwise : Text → Bool
begins_otherwise [] = false
begins_otherwise (c ∷ cs) = not (c == 34)

fixed_otherwise : Spelling → Bool
fixed_otherwise (Fixed fixed) = begins_otherwise fixed
fixed_otherwise _ = true

each_otherwise : (kind : Kind) → fixed_otherwise (spelling kind) ≡ true
unfolding begins_otherwise fixed_otherwise
each_otherwise Name = refl
each_otherwise _ = refl

fixed_begins : (fixed whole : Text) → begins_otherwise fixed ≡ true → whole ≡ fixed → BeginsOther whole
unfolding begins_otherwise
fixed_begins [] whole o e = absurd (cc o)
fixed_begins (c ∷ cs) whole o e = (c, cs, e, λ f. grind (arith, nat_tests))

other_shown : (whole text : Text) → BeginsOther whole → text ≡ whole → IsShown whole text text
other_shown whole text b e = inr (not_quoted whole b, e)

shown_by : (s : Spelling) (whole text : Text) → fixed_otherwise s ≡ true → Admits s whole
    → text ≡ between (quotes s) whole → IsShown whole text (shown_as s text)
unfolding fixed_otherwise
shown_by Names whole text o h e = other_shown whole text (name_begins whole h) e
shown_by Strings whole text o (units, f, are) e =
    let same : units ≡ text = sym (e ∙ (ap (between (codes "\"")) f ∙ unquoted 34 [] units)) in
    let is : whole ≡ codes "\"" ++ (text ++ codes "\"") = subst (λ t. whole ≡ codes "\"" ++ (t ++ codes "\"")) same f in
    inl (string_quoted whole text is (subst (Pieces IsUnit) same are), refl)
shown_by BlockStrings whole text o (units, f, are) e =
    let same : units ≡ text = sym (e ∙ (ap (between mark) f ∙ unquoted 34 (34 ∷ 34 ∷ []) units)) in
    let is : whole ≡ mark ++ (text ++ mark) = subst (λ t. whole ≡ mark ++ (t ++ mark)) same f in
    inr (block_not_quoted whole text is, sym is)
shown_by Floats whole text o h e = other_shown whole text (float_begins whole h) e
shown_by Ints whole text o h e = other_shown whole text (integer_begins whole h) e
shown_by (Fixed fixed) whole text o h e = other_shown whole text (fixed_begins fixed whole o h) e
shown_by NoText whole text o h e = absurd h

pub is_shown : (whole : Text) (kind : Kind) (text : Text) → Spells whole kind text
    → IsShown whole text (shown kind text)
is_shown whole kind text h =
    let t = spells_token whole kind text h in
    subst (IsShown whole text) (sym (by_spelling kind text))
    (shown_by (spelling kind) whole text (each_otherwise kind) t.0 t.1)

-- one text alone is quoted so
pub quoted_once : (whole s t : Text) → IsQuoted whole s → whole ≡ codes "\"" ++ (t ++ codes "\"") → t ≡ s
quoted_once whole s t q e =
    sym (unquoted 34 [] t) ∙ (ap (between (codes "\"")) (sym e ∙ q.0) ∙ unquoted 34 [] s)

-- what is shown of a String, by what stands between its quotes
pub shown_string : (whole text between seen : Text) → IsQuoted whole between → IsShown whole text seen
    → shown String between ≡ seen
shown_string whole text between seen q (inl (r, e)) =
    ap (shown String) (quoted_once whole text between r q.0) ∙ sym e
shown_string whole text between seen q (inr (n, e)) = absurd (n between q)

-- what is shown of any other token, by its bytes
pub shown_plain : (bytes text seen : List ℕ) → IsUtf8 bytes → ((t : Text) → IsQuoted (chars bytes) t → ⊥)
    → IsShown (chars bytes) text seen → bytes ≡ encode_utf8_all seen
shown_plain bytes text seen u n (inl (q, e)) = absurd (n text q)
shown_plain bytes text seen u n (inr (m, e)) = sym (encodes-chars bytes u) ∙ ap encode_utf8_all (sym e)

-- ---- the bytes between quotes

pub encode_quote : encode 34 ≡ 34 ∷ []
unfolding encode
encode_quote = refl

one_quote : encode_utf8_all (34 ∷ []) ≡ 34 ∷ []
unfolding encode
one_quote = refl

chars_quote : chars (34 ∷ []) ≡ 34 ∷ []
chars_quote = sym (ap chars one_quote) ∙ chars-encodes (34 ∷ []) refl

pub quoted_bytes : (bytes : List ℕ) (text : Text) → IsUtf8 bytes → chars bytes ≡ codes "\"" ++ (text ++ codes "\"")
    → bytes ≡ 34 ∷ (encode_utf8_all text ++ 34 ∷ [])
quoted_bytes bytes text u e =
    sym (encodes-chars bytes u) ∙ (ap encode_utf8_all e ∙ (encodes-append (34 ∷ []) (text ++ 34 ∷ [])
    ∙ ap₂ (λ a b. a ++ b) one_quote (encodes-append text (34 ∷ []) ∙ ap (λ b. encode_utf8_all text ++ b) one_quote)))

pub quoted_characters : (bytes text : List ℕ) → IsUtf8 bytes → IsUtf8 text → bytes ≡ 34 ∷ (text ++ 34 ∷ [])
    → chars bytes ≡ codes "\"" ++ (chars text ++ codes "\"")
quoted_characters bytes text u v e =
    chars_past_char bytes (text ++ 34 ∷ []) 34 u (e ∙ ap (λ a. a ++ (text ++ 34 ∷ [])) (sym encode_quote))
    ∙ ap (λ t. 34 ∷ t) (chars-append text (34 ∷ []) v ∙ ap (λ b. chars text ++ b) chars_quote)

pub first_byte : (bytes rest : List ℕ) → IsUtf8 bytes → chars bytes ≡ 34 ∷ rest → get_or bytes 0 0 ≡ 34
first_byte bytes rest u e =
    ap (λ t. get_or t 0 0) (sym (encodes-chars bytes u) ∙ (ap encode_utf8_all e
    ∙ (encodes-append (34 ∷ []) rest ∙ ap (λ a. a ++ encode_utf8_all rest) one_quote)))

pub first_character : (text : Text) → get_or (encode_utf8_all text) 0 0 ≡ 34 → (cs : Text) × (text ≡ 34 ∷ cs)
first_character [] e = absurd (omega (arith, e))
first_character (c ∷ cs) e =
    let bytes = encode_utf8_all (c ∷ cs) in
    let some : 0 < length bytes = omega (arith, length-le-encodes (c ∷ cs)) in (
      cs,
      ap (λ d. d ∷ cs) (char_from_byte bytes (encode_utf8_all cs) c
          (encodes-append (c ∷ []) cs ∙ ap (λ a. a ++ encode_utf8_all cs) (append-nil (encode c))) (omega (arith, e))
          some
          ∙ e),
    )

abbrev tail_of : List ℕ → List ℕ
tail_of [] = []
tail_of (b ∷ bs) = bs

pub tail_same : (s t : List ℕ) → 34 ∷ s ≡ 34 ∷ t → s ≡ t
tail_same s t e = ap tail_of e

pub same_between : (bytes s t : List ℕ) → bytes ≡ 34 ∷ (s ++ 34 ∷ []) → bytes ≡ 34 ∷ (t ++ 34 ∷ []) → s ≡ t
same_between bytes s t e f =
    sym (unquoted 34 [] s) ∙ (ap (between (34 ∷ [])) (sym e ∙ f) ∙ unquoted 34 [] t)
