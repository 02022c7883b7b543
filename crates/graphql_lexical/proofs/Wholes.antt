-- How a token is spelled, with its text and without.
use Rattle.std.proofs.Common.{◌≡◌, ℕ, suc, ◌+◌, ◌-◌, ◌*◌, List, [], ◌∷◌, ◌++◌, length, take, sym, ap, ap₂, subst, ◌∙◌, refl, arith, length-append, codes}
use Rattle.std.proofs.Math.Seq.{take-append_seam, drop-append_seam}
use Rattle.graphql_lexical.specs.Kinds.{Kind, EndOfFile, Spelling, Names, Strings, BlockStrings, Floats, Ints, Fixed, NoText, spelling}
use Rattle.graphql_lexical.specs.Tokens.{Pieces, IsUnit, AreBlockUnits, mark, quotes, around, Spells, Starts}
use Rattle.graphql_lexical.specs.device.Whole.{SpelledAs, Admits, IsToken, between, text_of}

-- a text between quotes without its quotes
pub unquoted : (q : ℕ) (qs text : List ℕ) → between (q ∷ qs) (around (q ∷ qs) text) ≡ text
unquoted q qs text =
    let inner : length (text ++ q ∷ qs) ≡ length text + suc (length qs) = length-append text (q ∷ qs) in
    let whole : length (qs ++ (text ++ q ∷ qs)) ≡ length qs + length (text ++ q ∷ qs) =
    length-append qs (text ++ q ∷ qs) in
    let count : suc (length (qs ++ (text ++ q ∷ qs))) - 2 * suc (length qs)
    ≡ length text = omega (arith, inner, whole) in
    ap₂ take count (drop-append_seam qs (text ++ q ∷ qs)) ∙ take-append_seam text (q ∷ qs)

in_quotes : (whole text : List ℕ) → whole ≡ codes "\"" ++ (text ++ codes "\"") → between (quotes Strings) whole ≡ text
in_quotes whole text e = ap (between (quotes Strings)) e ∙ unquoted 34 [] text

in_marks : (whole text : List ℕ) → whole ≡ mark ++ (text ++ mark) → between mark whole ≡ text
in_marks whole text e = ap (between mark) e ∙ unquoted 34 (34 ∷ 34 ∷ []) text

admits : (s : Spelling) (whole text : List ℕ) → SpelledAs s whole text
    → Admits s whole × (text ≡ between (quotes s) whole)
admits Names whole text h = h
admits Strings whole text (e, units) = ((text, e, units), sym (in_quotes whole text e))
admits BlockStrings whole text (e, units) = ((text, e, units), sym (in_marks whole text e))
admits Floats whole text h = h
admits Ints whole text h = h
admits (Fixed fixed) whole text h = h
admits NoText whole text h = absurd h

pub spelled_as : (s : Spelling) (whole text : List ℕ) → Admits s whole → text ≡ between (quotes s) whole
    → SpelledAs s whole text
spelled_as Names whole text h e = (h, e)
spelled_as Strings whole text (units, w, h) e =
    subst (λ (t : List ℕ). (whole ≡ codes "\"" ++ (t ++ codes "\"")) × Pieces IsUnit t)
    (sym (in_quotes whole units w) ∙ sym e) (w, h)
spelled_as BlockStrings whole text (units, w, h) e =
    subst (λ (t : List ℕ). (whole ≡ mark ++ (t ++ mark)) × AreBlockUnits t mark)
    (sym (in_marks whole units w) ∙ sym e) (w, h)
spelled_as Floats whole text h e = (h, e)
spelled_as Ints whole text h e = (h, e)
spelled_as (Fixed fixed) whole text h e = (h, e)
spelled_as NoText whole text h e = absurd h

-- a token of a kind is spelled as the kind's tokens are
by_spelling : (whole : List ℕ) (kind : Kind) (text : List ℕ) → Spells whole kind text → SpelledAs (spelling kind) whole text
by_spelling whole EndOfFile text h = absurd h
by_spelling whole kind text h = h

pub by_kind : (whole : List ℕ) (kind : Kind) (text : List ℕ) → SpelledAs (spelling kind) whole text → Spells whole kind text
by_kind whole EndOfFile text h = absurd h
by_kind whole kind text h = h

pub spells_token : (whole : List ℕ) (kind : Kind) (text : List ℕ) → Spells whole kind text
    → IsToken whole kind × (text ≡ text_of kind whole)
spells_token whole kind text h = admits (spelling kind) whole text (by_spelling whole kind text h)

pub token_spells : (whole : List ℕ) (kind : Kind) (text : List ℕ) → IsToken whole kind → text ≡ text_of kind whole
    → Spells whole kind text
token_spells whole kind text h e = by_kind whole kind text (spelled_as (spelling kind) whole text h e)

-- what some token begins with, by the token alone
pub token_starts : (front more : List ℕ) (kind : Kind) → IsToken (front ++ more) kind → Starts front
token_starts front more kind h =
    (more, kind, text_of kind (front ++ more), token_spells (front ++ more) kind _ h refl)

pub starts_token : (front : List ℕ) (s : Starts front) → IsToken (front ++ s.0) s.1
starts_token front s = (spells_token (front ++ s.0) s.1 s.2 s.3).0
