-- A device: the definitions of Reading, Cutting and Nesting by numbers of characters and of tokens. Proofs that go through
-- a source compute with them. proofs/ReadByTexts, CutByTexts and Depths have both equal, both ways.
use Rattle.std.specs.Prelude.{◌≡◌, ◌≢◌, ℕ, suc, ◌+◌, ◌<◌, ◌≤◌, ◌⊎◌, List, [], ◌∷◌, ◌++◌, length, take, drop, IsTrue, IsFalse, take_while, codes, ℤ, pos, ◌<ℤ◌, ◌≤ℤ◌}
use Rattle.graphql_lexical.specs.Parts.{◌or◌}
use Rattle.graphql_lexical.specs.Characters.{is_source, is_digit, is_alphanumeric, is_line_end, is_escape}
use Rattle.graphql_lexical.specs.Kinds.{Kind, EndOfFile, LexicalError, UnknownCharacter, UnexpectedCharacter, UnterminatedString, UnknownCharacterInString, UnknownEscapeSequence, UnexpectedEndOfFile}
use Rattle.graphql_lexical.specs.Tokens.{These, Spells, Starts, IsNumber, StartsNumber, IsZero, Pieces, IsUnit, mark, AreBlockUnits}
use Rattle.graphql_lexical.specs.Place.{Place, place}
use Rattle.graphql_lexical.specs.Cutting.{AreIgnored, Lexeme}
use Rattle.graphql_lexical.specs.Nesting.{nesting}

-- the longest prefix of the rest with P has n characters
pub record LongestAt (P : List ℕ → Type 0) (rest : List ℕ) (n : ℕ) : Type 0 where
  pub within : n ≤ length rest
  pub holds : P (take n rest)
  pub most : (m : ℕ) → m ≤ length rest → P (take m rest) → m ≤ n

-- The longest prefix that begins a token is a token, or nothing is left and this is the end. It isn't `0` or `-0` with a
-- digit after it.
pub record ReadsAt (rest : List ℕ) (n : ℕ) (kind : Kind) (text : List ℕ) : Type 0 where
  pub longest : LongestAt Starts rest n
  pub spells : Spells (take n rest) kind text ⊎ ((rest ≡ []) × (kind ≡ EndOfFile) × (text ≡ []))
  pub alone : IsZero (take n rest) → (c : ℕ) (after : List ℕ) → drop n rest ≡ c ∷ after → IsFalse (is_digit c)

-- how many letters and digits follow, counted to four at most
abbrev pub counted : List ℕ → ℕ
counted after = length (take_while is_alphanumeric (take 4 after))

-- What stands after the units of a string that has no end: the lexical error, and its place from there.
pub data StringFailsAt : List ℕ → ℕ → LexicalError → Type 0 where
  at_end : StringFailsAt [] 0 UnterminatedString
  at_line_end : {c : ℕ} {after : List ℕ} → IsTrue (is_line_end c) → StringFailsAt (c ∷ after) 0 UnterminatedString
  at_control : {c : ℕ} {after : List ℕ} → IsFalse (is_source c) → StringFailsAt (c ∷ after) 0 (UnknownCharacterInString c)
  lone_backslash : StringFailsAt (codes "\\") 1 UnterminatedString
  wrong_escape : {c : ℕ} {after : List ℕ} → IsFalse (is_escape c) → c ≢ 117 → StringFailsAt (codes "\\" ++ c ∷ after) 1 (UnknownEscapeSequence (codes "\\" ++ c ∷ []))
  short_unicode : {after : List ℕ} → counted after < 4 → counted after ≡ length after → StringFailsAt (codes "\\u" ++ after) (2 + length after) UnterminatedString
  wrong_unicode : {after : List ℕ} → 0 < counted after → (counted after ≡ 4) ⊎ (counted after < length after) → StringFailsAt (codes "\\u" ++ after) 1 (UnknownEscapeSequence (codes "\\u" ++ take (counted after) after))
  no_unicode : {c : ℕ} {after : List ℕ} → counted (c ∷ after) ≡ 0 → StringFailsAt (codes "\\u" ++ c ∷ after) 1 (UnknownEscapeSequence (codes "\\u" ++ c ∷ []))

-- The lexical error at the front of a rest, and its place, counted from the rest's start.
pub data FailsAt : List ℕ → ℕ → LexicalError → Type 0 where
  -- what begins like a number, and isn't one
  number_ends : {rest : List ℕ} {n : ℕ} → 0 < n → LongestAt StartsNumber rest n → (IsNumber (take n rest) → ⊥) → drop n rest ≡ [] → FailsAt rest n UnexpectedEndOfFile
  number_stops : {rest : List ℕ} {n c : ℕ} {after : List ℕ} → 0 < n → LongestAt StartsNumber rest n → (IsNumber (take n rest) → ⊥) → drop n rest ≡ c ∷ after → FailsAt rest n (UnexpectedCharacter c)
  zero_goes_on : {rest : List ℕ} {n c : ℕ} {after : List ℕ} → LongestAt StartsNumber rest n → IsZero (take n rest) → drop n rest ≡ c ∷ after → IsTrue (is_digit c) → FailsAt rest n (UnexpectedCharacter c)
  -- a string that has no end
  string_fails : {more : List ℕ} {k m : ℕ} {error : LexicalError} → LongestAt (Pieces IsUnit) more k → StringFailsAt (drop k more) m error → FailsAt (codes "\"" ++ more) (suc k + m) error
  -- a block string that has no end: block units up to the end, or up to a control character
  block_ends : {units : List ℕ} → AreBlockUnits units [] → FailsAt (mark ++ units) (3 + length units) UnterminatedString
  block_stops : {c : ℕ} {units after : List ℕ} → AreBlockUnits units (c ∷ after) → IsFalse (is_source c) → FailsAt (mark ++ (units ++ c ∷ after)) (3 + length units) (UnknownCharacterInString c)
  -- one or two dots
  dots_end : {dots : List ℕ} → (These (codes ".") or These (codes "..")) dots → FailsAt dots (length dots) UnexpectedEndOfFile
  dots_stop : (c : ℕ) (dots after : List ℕ) → (These (codes ".") or These (codes "..")) dots → c ≢ 46 → FailsAt (dots ++ c ∷ after) 0 (UnexpectedCharacter 46)
  -- any other character that begins no token
  unknown : {c : ℕ} {after : List ℕ} → (Starts (c ∷ []) → ⊥) → FailsAt (c ∷ after) 0 (UnknownCharacter c)

-- From place k on stand ignored tokens and this token, which ends at place next.
pub record StandsAt (source : List ℕ) (k : ℕ) (lexeme : Lexeme) (next : ℕ) : Type 0 where
  pub ignored : ℕ
  pub size : ℕ
  pub ignored_is : LongestAt AreIgnored (drop k source) ignored
  pub reads : ReadsAt (drop (k + ignored) source) size lexeme.kind lexeme.text
  pub start : lexeme.span.start ≡ place source (k + ignored)
  pub end : lexeme.span.end ≡ place source next
  pub next_is : next ≡ (k + ignored) + size

-- From place k to place next stand these tokens, each after ignored tokens, none of them the end.
abbrev pub LeadsAt : List ℕ → ℕ → List Lexeme → ℕ → Type 0
LeadsAt source k [] next = k ≡ next
LeadsAt source k (x ∷ xs) next = (middle : ℕ) × StandsAt source k x middle × (x.kind ≢ EndOfFile) × LeadsAt source middle xs next

-- From place k on the source is these tokens, each after ignored tokens, the last one and no other the end.
abbrev pub CutFrom : List ℕ → ℕ → List Lexeme → Type 0
CutFrom source k [] = ⊥
CutFrom source k (x ∷ xs) = (next : ℕ) × StandsAt source k x next × (((x.kind ≡ EndOfFile) × (xs ≡ [])) ⊎ ((x.kind ≢ EndOfFile) × CutFrom source next xs))

-- From place k on: tokens, each after ignored tokens, none of them the end, then ignored tokens and a rest with this
-- lexical error at this place.
pub data BreaksFrom : List ℕ → ℕ → LexicalError → Place → Type 0 where
  here : {source : List ℕ} {k ignored size : ℕ} {error : LexicalError} → LongestAt AreIgnored (drop k source) ignored → FailsAt (drop (k + ignored) source) size error → BreaksFrom source k error (place source ((k + ignored) + size))
  later : {source : List ℕ} {k next : ℕ} {x : Lexeme} {error : LexicalError} {at : Place} → StandsAt source k x next → x.kind ≢ EndOfFile → BreaksFrom source next error at → BreaksFrom source k error at

-- how many more brackets the tokens up to token i, and with it, open than close
abbrev pub nesting_at : List Lexeme → ℕ → ℤ
nesting_at ts i = nesting (take (suc i) ts)

-- Token i, which is t, is the first at which the nesting exceeds depth.
pub record IsFirstDeeperAt (depth : ℕ) (ts : List Lexeme) (i : ℕ) (t : Lexeme) : Type 0 where
  pub before : List Lexeme
  pub after : List Lexeme
  pub whole : ts ≡ before ++ t ∷ after
  pub number : length before ≡ i
  pub deeper : pos depth <ℤ nesting_at ts i
  pub first : (j : ℕ) → j < i → nesting_at ts j ≤ℤ pos depth
