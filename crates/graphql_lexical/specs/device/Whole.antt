-- A device: which texts are tokens, by how they are spelled, without the token's text, and the text of one that is a token.
use Rattle.std.specs.Prelude.{◌≡◌, ℕ, ◌-◌, ◌*◌, List, [], ◌∷◌, ◌++◌, length, take, drop, codes}
use Rattle.graphql_lexical.specs.Kinds.{Kind, Spelling, Names, Strings, BlockStrings, Floats, Ints, Fixed, NoText, spelling}
use Rattle.graphql_lexical.specs.Tokens.{IsName, IsFloat, IsInteger, Pieces, IsUnit, AreBlockUnits, mark, quotes}

-- The whole text is a token that is spelled so, and this is the token's text.
abbrev pub SpelledAs : Spelling → List ℕ → List ℕ → Type 0
SpelledAs Names whole text = IsName whole × (text ≡ whole)
SpelledAs Strings whole text = (whole ≡ codes "\"" ++ (text ++ codes "\"")) × Pieces IsUnit text
SpelledAs BlockStrings whole text = (whole ≡ mark ++ (text ++ mark)) × AreBlockUnits text mark
SpelledAs Floats whole text = IsFloat whole × (text ≡ whole)
SpelledAs Ints whole text = IsInteger whole × (text ≡ whole)
SpelledAs (Fixed fixed) whole text = (whole ≡ fixed) × (text ≡ whole)
SpelledAs NoText whole text = ⊥

-- a quote, units, a quote
abbrev pub IsString : List ℕ → Type 0
IsString text = (units : List ℕ) × (text ≡ codes "\"" ++ (units ++ codes "\"")) × Pieces IsUnit units

-- a triple quote, block units, a triple quote
abbrev pub IsBlockString : List ℕ → Type 0
IsBlockString text = (units : List ℕ) × (text ≡ mark ++ (units ++ mark)) × AreBlockUnits units mark

-- the whole text is a token that is spelled so
abbrev pub Admits : Spelling → List ℕ → Type 0
Admits Names text = IsName text
Admits Strings text = IsString text
Admits BlockStrings text = IsBlockString text
Admits Floats text = IsFloat text
Admits Ints text = IsInteger text
Admits (Fixed fixed) text = text ≡ fixed
Admits NoText text = ⊥

-- the whole text is a token of this kind
abbrev pub IsToken : List ℕ → Kind → Type 0
IsToken text kind = Admits (spelling kind) text

abbrev pub between : List ℕ → List ℕ → List ℕ
between [] whole = whole
between (q ∷ qs) whole = take (length whole - 2 * length (q ∷ qs)) (drop (length (q ∷ qs)) whole)

-- the token's text: for a string what stands between its quotes, for a block string between its triple quotes
abbrev pub text_of : Kind → List ℕ → List ℕ
text_of kind whole = between (quotes (spelling kind)) whole
