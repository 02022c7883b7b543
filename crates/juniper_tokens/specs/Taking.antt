-- A list of lexemes of which some have been taken.
use Rattle.std.specs.Prelude.{ℕ, Bool, ◌≡◌, ◌+◌, ◌-◌, ◌≤◌, List, drop}
use Rattle.graphql_lexical.specs.Place.{Place}
use Rattle.graphql_lexical.specs.Cutting.{Lexeme}
use Rattle.juniper_tokens.specs.Cursor.{first_of}

-- the lexemes, how many of them have been taken, and whether their end is that of a source's tokens or of a list of them,
-- and not one that was put in the place of what a limit or a lexical error leaves out
pub record Taking : Type 0 where
  pub tokens : List Lexeme
  pub taken : ℕ
  pub whole : Bool

-- the lexemes that are left
abbrev pub left : Taking → List Lexeme
left t = drop t.taken t.tokens

-- one more is taken
abbrev pub next_taken : Taking → Taking
next_taken t = record { tokens = t.tokens; taken = t.taken + 1; whole = t.whole }

-- where the lexeme that was taken last ends
abbrev pub last_end : Taking → Place
last_end t = (first_of (drop (t.taken - 1) t.tokens)).span.end

-- of the same lexemes some more were taken, or none
pub record GoesOn (old new : Taking) : Type 0 where
  pub same : new.tokens ≡ old.tokens
  pub on : old.taken ≤ new.taken
  pub still : new.whole ≡ old.whole
