-- What the parts of reading a list give.
use Rattle.std.specs.Prelude.{◌≡◌, List, [], ◌∷◌, ◌++◌, Result, Ok, Err, Option, Some, None}
use Rattle.graphql_lexical.specs.Place.{Place}
use Rattle.graphql_lexical.specs.Cutting.{Lexeme}
use Rattle.juniper_tokens.specs.declared.token.Token.{Token}
use Rattle.juniper_tokens.specs.declared.error.ParseFailure.{ParseFailure}
use Rattle.juniper_tokens.specs.Cursor.{expect_at, skip_at}
use Rattle.juniper_tokens.specs.Delimited.{IsRest, IsProperRest, Giving, Calls, GoesOn, Closes, IsRefused, HasNoItem}

-- the opening token was taken, which starts at this place
pub record Opened (opening : Token) (old : List Lexeme) (start : Place) (now : List Lexeme) : Type 0 where
  pub opener : Lexeme
  pub opens : expect_at opening old ≡ Ok (opener, now)
  pub start_is : start ≡ opener.span.start
  pub further : IsProperRest old now

module _ {R : Type 0} (from : ParseFailure → R → Type 0) where
  abbrev pub Opens : Token → List Lexeme → Result Place R → List Lexeme → Type 0
  Opens opening old (Ok start) new = Opened opening old start new
  Opens opening old (Err e) new = IsRefused from (expect_at opening old) old e new × IsRest old new

  -- the closing token was taken, which ends at this place, or does not stand there
  abbrev pub MayClose : Token → List Lexeme → Result (Option Place) R → List Lexeme → Type 0
  MayClose closing old (Ok (Some end)) new = (closer : Lexeme) × Closes closing old closer new × (end ≡ closer.span.end)
      × IsRest old new
  MayClose closing old (Ok None) new = GoesOn closing old × (new ≡ old)
  MayClose closing old (Err e) new = IsRefused from (skip_at closing old) old e new × IsRest old new

  -- an item was read, and stands after those that were there
  abbrev pub Adds : {X : Type 0} → Giving (Result X R) → List Lexeme → List X → Result (Unit {0}) R → List Lexeme
      → List X → Type 0
  Adds {X} gives old items (Ok u) new all = (item : X) × Calls gives old (Ok item) new × (all ≡ items ++ item ∷ [])
  Adds gives old items (Err e) new all = HasNoItem gives from old e new
