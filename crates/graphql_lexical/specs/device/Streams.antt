-- A device: the tokens of a source one after another, within limits on their number and on their nesting, computed.
use Rattle.std.specs.Prelude.{ℕ, zero, suc, ◌+◌, ◌-◌, Bool, true, false, if◌then◌else◌, List, [], ◌∷◌, drop, nat_lt}
use Rattle.std.specs.Prelude.{Result, Ok, Err}
use Rattle.graphql_lexical.specs.Place.{place}
use Rattle.graphql_lexical.specs.Kinds.{Kind, EndOfFile}
use Rattle.graphql_lexical.specs.Cutting.{Lexeme}
use Rattle.graphql_lexical.specs.Nesting.{is_opening, is_closing}
use Rattle.graphql_lexical.specs.device.Scan.{Found, Missed, scan, ignored_size, lexeme_at, is_end}

-- tokens up to an end, and whether that is the end of the source
pub record Tokens : Type 0 where
  pub tokens : List Lexeme
  pub whole : Bool

abbrev pub with_first : Lexeme → Tokens → Tokens
with_first x t = record { tokens = x ∷ t.tokens; whole = t.whole }

abbrev pub only : Lexeme → Bool → Tokens
only x whole = record { tokens = x ∷ []; whole = whole }

-- an end at place k, before the end of the source
abbrev pub short_at : List ℕ → ℕ → Tokens
short_at source k =
    only (record { kind = EndOfFile; text = []; span = record { start = place source k; end = place source k } }) false

-- how many brackets are open and closed with a token of this kind
abbrev pub opened_with : Kind → ℕ → ℕ
opened_with kind o = if is_opening kind then suc o else o

abbrev pub closed_with : Kind → ℕ → ℕ
closed_with kind c = if is_closing kind then suc c else c

-- a token of this kind is nested deeper than depth
abbrev pub goes_deep : ℕ → Kind → ℕ → ℕ → Bool
goes_deep depth kind o c = nat_lt depth (opened_with kind o - closed_with kind c)

-- the end of the source, if it stands at place j
abbrev pub only_end : List ℕ → ℕ → Found → Bool → Tokens
only_end source j f true = only (lexeme_at source j f) true
only_end source j f false = short_at source j

abbrev pub last_at : List ℕ → ℕ → Result Found Missed → Tokens
last_at source j (Ok f) = only_end source j f (is_end f.kind)
last_at source j (Err m) = short_at source j

-- the token at place j, and those after it
abbrev pub found_or : List ℕ → ℕ → (ℕ → Kind → Tokens) → Found → Bool → Tokens
found_or source j go f true = only (lexeme_at source j f) true
found_or source j go f false = with_first (lexeme_at source j f) (go (j + f.size) f.kind)

abbrev pub next_at : List ℕ → ℕ → (ℕ → Kind → Tokens) → Result Found Missed → Tokens
next_at source j go (Ok f) = found_or source j go f (is_end f.kind)
next_at source j go (Err m) = short_at source j

-- those after a token that ends at a place, which may be nested too deep
abbrev pub after_token : List ℕ → ℕ → Tokens → Bool → Tokens
after_token source next rest true = short_at source next
after_token source next rest false = rest

-- The tokens from place k on, where so many brackets were opened and closed, no more than this many before the end.
abbrev pub stream : ℕ → ℕ → List ℕ → ℕ → ℕ → ℕ → Tokens
stream depth zero source k o c =
    let j = k + ignored_size (drop k source) in last_at source j (scan (drop j source))
stream depth (suc left) source k o c =
    let j = k + ignored_size (drop k source) in
    next_at source j
    (λ next kind. after_token source next (stream depth left source next (opened_with kind o) (closed_with kind c))
    (goes_deep depth kind o c))
    (scan (drop j source))
