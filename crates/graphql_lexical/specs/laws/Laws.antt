-- What is claimed of the definitions.
use Rattle.std.specs.Prelude.{◌≡◌, ◌≢◌, ℕ, ◌-◌, ◌≤◌, ◌+◌, List, [], ◌∷◌, ◌++◌, length, slice_get, take, drop, ◌⊎◌, ◌↔◌, Some, Ok, Err}
use Rattle.std.specs.List.{AllByRecursion}
use Rattle.graphql_lexical.specs.Kinds.{Kind, BlockString, EndOfFile, LexicalError}
use Rattle.graphql_lexical.specs.Place.{Place, Span, place, origin, past_character}
use Rattle.graphql_lexical.specs.Tokens.{mark, written}
use Rattle.graphql_lexical.specs.Reading.{Reads, Fails}
use Rattle.graphql_lexical.specs.device.Indexed.{ReadsAt, FailsAt}
use Rattle.graphql_lexical.specs.Characters.{Text}
use Rattle.graphql_lexical.specs.Cutting.{Lexeme, Cut, Breaks}
use Rattle.graphql_lexical.specs.device.Scan.{Found, Missed, Broken, scan, cut_of}

-- the first place of a source is the origin, and each further one follows from the one before by the character between
pub record StepsByCharacters (source : List ℕ) : Type 0 where
  pub first : place source 0 ≡ origin
  pub next : (k c : ℕ) → slice_get source k ≡ Some c → place source (k + 1) ≡ past_character (place source k) c

-- what scan finds is what is read
abbrev pub FindsWhatReads : List ℕ → Type 0
FindsWhatReads rest = (f : Found) → (scan rest ≡ Ok f) ↔ ReadsAt rest f.size f.kind f.text

-- what scan misses is what fails
abbrev pub MissesWhatFails : List ℕ → Type 0
MissesWhatFails rest = (m : Missed) → (scan rest ≡ Err m) ↔ FailsAt rest m.at m.error

-- this is read, nothing else is, and nothing fails
pub record IsOnlyReading (rest whole after : Text) (kind : Kind) (text : Text) : Type 0 where
  pub whole_is : rest ≡ whole ++ after
  pub reads : Reads whole after kind text
  pub alone : (w a : Text) (k : Kind) (t : Text) → rest ≡ w ++ a → Reads w a k t → (w ≡ whole) × (k ≡ kind) × (t ≡ text)
  pub no_error : (w a : Text) (error : LexicalError) → rest ≡ w ++ a → Fails w a error → ⊥

-- this fails, nothing else does, and nothing is read
pub record IsOnlyError (rest front after : Text) (error : LexicalError) : Type 0 where
  pub whole_is : rest ≡ front ++ after
  pub fails : Fails front after error
  pub alone : (w a : Text) (e : LexicalError) → rest ≡ w ++ a → Fails w a e → (w ≡ front) × (e ≡ error)
  pub no_reading : (w a : Text) (k : Kind) (t : Text) → rest ≡ w ++ a → Reads w a k t → ⊥

-- a rest has exactly one of both
abbrev pub HasOneResult : Text → Type 0
HasOneResult rest = ((whole after : Text) × (kind : Kind) × (text : Text) × IsOnlyReading rest whole after kind text)
    ⊎ ((front after : Text) × (error : LexicalError) × IsOnlyError rest front after error)

-- no token but a block string begins with a triple quote
abbrev pub BeginsBlockString : Text → Type 0
BeginsBlockString rest = (whole after : Text) (kind : Kind) (text : Text) → mark ++ rest ≡ whole ++ after
    → Reads whole after kind text → kind ≡ BlockString

abbrev pub CutsWhatIsCut : List ℕ → Type 0
CutsWhatIsCut source = (xs : List Lexeme) → (cut_of source ≡ Ok xs) ↔ Cut source xs

abbrev pub BreaksWhatIsBroken : List ℕ → Type 0
BreaksWhatIsBroken source = (b : Broken) → (cut_of source ≡ Err b) ↔ Breaks source b.error b.at

-- a source has a cut or a break, no other cut, no other break, and never both
pub record HasOneCutOrBreak (source : List ℕ) : Type 0 where
  pub some : ((lexemes : List Lexeme) × Cut source lexemes) ⊎ ((error : LexicalError) × (at : Place) × Breaks source error at)
  pub one_cut : (xs ys : List Lexeme) → Cut source xs → Cut source ys → xs ≡ ys
  pub one_break : (d e : LexicalError) (p q : Place) → Breaks source d p → Breaks source e q → (d ≡ e) × (p ≡ q)
  pub never_both : (xs : List Lexeme) (error : LexicalError) (at : Place) → Cut source xs → Breaks source error at → ⊥

-- a source of n characters has at most n + 1 tokens, the last the end and no other
abbrev pub HasFewTokens : List ℕ → Type 0
HasFewTokens source = (front : List Lexeme) (last : Lexeme) → Cut source (front ++ last ∷ []) → (length front ≤ length source) × (last.kind ≡ EndOfFile) × AllByRecursion (λ x. x.kind ≢ EndOfFile) front

-- the characters from one place to another
abbrev pub slice_of : List ℕ → Span → List ℕ
slice_of source span = take (span.end.index - span.start.index) (drop span.start.index source)

-- The token stands at or after character k: its places are places of the source, and what stands between them is its
-- text, of a String and of a block string its text between the quotes.
pub record IsSliceFrom (source : List ℕ) (k : ℕ) (x : Lexeme) : Type 0 where
  pub not_before : k ≤ x.span.start.index
  pub forward : x.span.start.index ≤ x.span.end.index
  pub within : x.span.end.index ≤ length source
  pub start : x.span.start ≡ place source x.span.start.index
  pub end : x.span.end ≡ place source x.span.end.index
  pub slice : slice_of source x.span ≡ written x.kind x.text

-- each token stands after the one before it
abbrev pub AreSlicesFrom : List ℕ → ℕ → List Lexeme → Type 0
AreSlicesFrom source k [] = Unit {0}
AreSlicesFrom source k (x ∷ xs) = IsSliceFrom source k x × AreSlicesFrom source x.span.end.index xs

-- the tokens of a source are slices of it, one after another
abbrev pub HasSlicesInOrder : List ℕ → Type 0
HasSlicesInOrder source = (lexemes : List Lexeme) → Cut source lexemes → AreSlicesFrom source 0 lexemes
