-- What a cursor reads as a list between an opening and a closing token.
use Rattle.std.specs.Prelude.{◌≡◌, ℕ, ◌<◌, List, [], ◌∷◌, ◌++◌, drop, length, Result, Ok, Err, Some, None}
use Rattle.std.specs.Borrow.{MutBor}
use Rattle.std.specs.List.{FoldsTo}
use Rattle.graphql_lexical.specs.Cutting.{Lexeme}
use Rattle.juniper_tokens.specs.declared.span.Span.{Span}
use Rattle.juniper_tokens.specs.declared.token.Token.{Token}
use Rattle.juniper_tokens.specs.declared.error.ParseFailure.{ParseFailure}
use Rattle.juniper_tokens.specs.declared.error.ParseFailure.TheVariants as failures
use Rattle.juniper_tokens.specs.Errors.{view_fault}
use Rattle.juniper_tokens.specs.Cursor.{Read, Unmoved, expect_at, skip_at}

-- some lexemes were taken, or none
pub record IsRest (old new : List Lexeme) : Type 0 where
  pub taken : ℕ
  pub left : new ≡ drop taken old

-- one lexeme was taken, or more
pub record IsProperRest (old new : List Lexeme) : Type 0 where
  pub rest : IsRest old new
  pub shorter : length new < length old

-- What the calls of a function may give: at a cursor a result, and the cursor after it.
abbrev pub Giving : Type 0 → Type 1
Giving R = MutBor (List Lexeme) → R → MutBor (List Lexeme) → Type 0

-- At a cursor over these lexemes a call may return r and leave the new ones.
pub record Calls {R : Type 0} (gives : Giving R) (old : List Lexeme) (r : R) (new : List Lexeme) : Type 0 where
  pub given : MutBor (List Lexeme)
  pub given_is : given.now ≡ old
  pub left : MutBor (List Lexeme)
  pub called : gives given r left
  pub left_is : left.now ≡ new

-- After an item a proper suffix is left, and where there is none a suffix.
abbrev pub Leaves : {X R : Type 0} → Result X R → List Lexeme → List Lexeme → Type 0
Leaves (Ok x) old new = IsProperRest old new
Leaves (Err e) old new = IsRest old new

-- A function may be called wherever a proper suffix of these lexemes stands, and reads on from there.
pub record ReadsItems {X R : Type 0} (may_call : MutBor (List Lexeme)
    → Type 0) (gives : Giving (Result X R)) (ts : List Lexeme) : Type 0 where
  pub callable : (given : MutBor (List Lexeme)) → IsProperRest ts given.now → may_call given
  pub leaves : (given left : MutBor (List Lexeme)) (r : Result X R) → IsProperRest ts given.now → gives given r left
      → Leaves r given.now left.now

-- The closing token does not stand next, nor does the end.
abbrev pub GoesOn : Token → List Lexeme → Type 0
GoesOn closing ts = skip_at closing ts ≡ Ok (None, ts)

-- the closing token stands next, as this lexeme, and is taken
abbrev pub Closes : Token → List Lexeme → Lexeme → List Lexeme → Type 0
Closes closing ts closer next = skip_at closing ts ≡ Ok (Some closer, next)

-- A call of the cursor was refused.
abbrev pub Refuses : {Y : Type 0} → ParseFailure → List Lexeme → List Lexeme → Read Y → Type 0
Refuses (failures.Refused e) old new step = step ≡ Err (view_fault e, new)
Refuses failures.Memory old new step = Unmoved old new step

-- this step was refused, and e is made of the refusal
pub record IsRefused {R Y : Type 0} (from : ParseFailure → R
    → Type 0) (step : Read Y) (old : List Lexeme) (e : R) (new : List Lexeme) : Type 0 where
  pub failure : ParseFailure
  pub made : from failure e
  pub refuses : Refuses failure old new step

module _ {X R : Type 0} (gives : Giving (Result X R)) where
  -- a call returns e, or there is no memory for its item
  pub data HasNoItem (from : ParseFailure → R → Type 0) (old : List Lexeme) (e : R) (new : List Lexeme) : Type 0 where
    refused : Calls gives old (Err e) new → HasNoItem from old e new
    no_memory : (item : X) → Calls gives old (Ok item) new → from failures.Memory e → HasNoItem from old e new

  -- an item, before which no closing token stands
  abbrev pub OpenItem : Token → List Lexeme → X → List Lexeme → Type 0
  OpenItem closing ts x next = GoesOn closing ts × Calls gives ts (Ok x) next

  -- an item, after which no closing token stands
  abbrev pub ItemOpen : Token → List Lexeme → X → List Lexeme → Type 0
  ItemOpen closing ts x next = Calls gives ts (Ok x) next × GoesOn closing next

module _ {X R : Type 0} (gives : Giving (Result X R)) (from : ParseFailure → R → Type 0) (opening closing : Token) where
  -- After the opening token: items up to the closing one. The span runs from the one to the other.
  pub record ReadsList (old : List Lexeme) (items : List X) (span : Span) (new : List Lexeme) : Type 0 where
    pub opener : Lexeme
    pub first : List Lexeme
    pub last : List Lexeme
    pub closer : Lexeme
    pub opens : expect_at opening old ≡ Ok (opener, first)
    pub chain : FoldsTo (OpenItem gives closing) first items last
    pub closes : Closes closing last closer new
    pub start : span.start ≡ opener.span.start
    pub end : span.end ≡ closer.span.end

  -- the same with one item or more
  pub record ReadsNonempty (old : List Lexeme) (items : List X) (span : Span) (new : List Lexeme) : Type 0 where
    pub opener : Lexeme
    pub first : List Lexeme
    pub front : List X
    pub before : List Lexeme
    pub item : X
    pub last : List Lexeme
    pub closer : Lexeme
    pub opens : expect_at opening old ≡ Ok (opener, first)
    pub chain : FoldsTo (ItemOpen gives closing) first front before
    pub ends : Calls gives before (Ok item) last
    pub items_are : items ≡ front ++ item ∷ []
    pub closes : Closes closing last closer new
    pub start : span.start ≡ opener.span.start
    pub end : span.end ≡ closer.span.end

  -- There is no list: the opening token, an item or the closing token is refused, whichever comes first.
  pub data RefusesList (old : List Lexeme) (e : R) (new : List Lexeme) : Type 0 where
    at_opening : IsRefused from (expect_at opening old) old e new → RefusesList old e new
    at_item : (opener : Lexeme) (first last : List Lexeme) (items : List X) → expect_at opening old ≡ Ok (opener, first)
        → FoldsTo (OpenItem gives closing) first items last → GoesOn closing last → HasNoItem gives from last e new
        → RefusesList old e new
    at_closing : (opener : Lexeme) (first last : List Lexeme) (items : List X) → expect_at opening old
        ≡ Ok (opener, first) → FoldsTo (OpenItem gives closing) first items last
        → IsRefused from (skip_at closing last) last e new → RefusesList old e new

  pub data RefusesNonempty (old : List Lexeme) (e : R) (new : List Lexeme) : Type 0 where
    at_opening : IsRefused from (expect_at opening old) old e new → RefusesNonempty old e new
    at_item : (opener : Lexeme) (first last : List Lexeme) (items : List X) → expect_at opening old ≡ Ok (opener, first)
        → FoldsTo (ItemOpen gives closing) first items last → HasNoItem gives from last e new
        → RefusesNonempty old e new
    at_closing : (opener : Lexeme) (first before last : List Lexeme) (items : List X) (item : X) → expect_at opening old
        ≡ Ok (opener, first) → FoldsTo (ItemOpen gives closing) first items before → Calls gives before (Ok item) last
        → IsRefused from (skip_at closing last) last e new → RefusesNonempty old e new
