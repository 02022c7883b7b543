-- Lists between an opening and a closing token.
use Rattle.std.proofs.Common.{◌≡◌, ◌<◌, Bool, true, false, cond, List, [], ◌∷◌, ◌++◌, length, Result, Ok, Err, Option, Some, None, IfErr, IsErrAnd, refl, sym, ap, subst}
use Rattle.std.specs.Borrow.{MutBor}
use Rattle.std.specs.List.{FoldsTo}
use Rattle.std.proofs.lemmas.Fn.{FoldsTo-push}
use Rattle.graphql_lexical.specs.declared.kind.Kind.TheVariants.{EndOfFile}
use Rattle.graphql_lexical.specs.Kinds.{same_kind}
use Rattle.graphql_lexical.specs.Place.{Place}
use Rattle.graphql_lexical.specs.Cutting.{Lexeme}
use Rattle.juniper_tokens.specs.declared.token.Token.{Token}
use Rattle.juniper_tokens.specs.declared.error.ParseFailure.{ParseFailure}
use Rattle.juniper_tokens.specs.declared.error.ParseFailure.TheVariants as failures
use Rattle.juniper_tokens.specs.Errors.{UnexpectedEndOfFile}
use Rattle.juniper_tokens.specs.Cursor.{Read, ◌>>=◌, Fails, OnMemory, Unmoved, first_of, kind_at, next_at, expect_at, skip_if, skip_at}
use Rattle.juniper_tokens.specs.Delimited.{IsRest, IsProperRest, Giving, Calls, Leaves, ReadsItems, GoesOn, Closes, IsRefused, HasNoItem, OpenItem, ItemOpen, ReadsList, ReadsNonempty, RefusesList, RefusesNonempty}
use Rattle.juniper_tokens.specs.DelimitedParts.{Opened}
use Rattle.juniper_tokens.proofs.Rests.{further, properly_further}

-- ---- the parts of reading a list

pub opened : (opening : Token) (ts : List Lexeme) (t : Lexeme) (us : List Lexeme) → expect_at opening ts ≡ Ok (t, us)
    → length us < length ts → IsRest ts us → Opened opening ts t.span.start us
opened opening ts t us e shorter rest =
    record { opener = t; opens = e; start_is = refl; further = record { rest = rest; shorter = shorter } }

pub closed : (closing : Token) (ts : List Lexeme) (t : Lexeme) (us : List Lexeme) → skip_at closing ts ≡ Ok (Some t, us)
    → IsRest ts us
    → (closer : Lexeme) × Closes closing ts closer us × (t.span.end ≡ closer.span.end) × IsRest ts us
closed closing ts t us e rest = (t, e, refl, rest)

same_step : {A : Type 0} (x y : A) (ts us : List Lexeme) → ◌≡◌ {A = Read A} (Ok (x, ts)) (Ok (y, us))
    → (x ≡ y) × (ts ≡ us)
same_step {A} x y ts us e =
    let same : (x, ts) ≡ (y, us) = cc in
    (ap (λ (z : A × List Lexeme). z.0) same, ap (λ (z : A × List Lexeme). z.1) same)

some_skipped : (r : Read Lexeme) (us : List Lexeme) → (r >>= λ t. Ok (Some t.0, t.1)) ≡ Ok (None, us) → ⊥
some_skipped (Ok x) us e = absurd (cc (same_step (Some x.0) None x.1 us e).0)
some_skipped (Err f) us e = absurd (cc e)

none_skipped : (passes : Bool) (ts us : List Lexeme) → skip_if passes ts ≡ Ok (None, us) → us ≡ ts
none_skipped true ts us e = absurd (some_skipped (next_at ts) us e)
none_skipped false ts us e = by_end (same_kind (kind_at ts) EndOfFile) e
  where
    by_end : (b : Bool) → cond {A = Read (Option Lexeme)} b (Err
        (record { error = UnexpectedEndOfFile; span = (first_of ts).span }, ts)) (Ok (None, ts)) ≡ Ok (None, us)
        → us ≡ ts
    by_end true p = absurd (cc p)
    by_end false p = sym (same_step None None ts us p).1

pub not_closed : (closing : Token) (ts us : List Lexeme) → skip_at closing ts ≡ Ok (None, us)
    → GoesOn closing ts × (us ≡ ts)
unfolding skip_at
not_closed closing ts us e =
    let same = none_skipped _ ts us e in
    (subst (λ (left : List Lexeme). skip_at closing ts ≡ Ok (None, left)) same e, same)

pub refused_step : {A R : Type 0} (from : ParseFailure → R → Type 0) (step : Read A) (ts : List Lexeme)
    (failure : ParseFailure) (e : R) (us : List Lexeme)
    → from failure e → Fails failure us step → OnMemory {X = A} (Err failure) (Unmoved ts us step) → IsRest ts us
    → IsRefused from step ts e us × IsRest ts us
refused_step from step ts (failures.Refused x) e us made fails unmoved rest =
    (record { failure = failures.Refused x; made = made; refuses = fails }, rest)
refused_step from step ts failures.Memory e us made fails unmoved rest =
    (record { failure = failures.Memory; made = made; refuses = unmoved }, rest)

-- ---- what the loops keep

pub calls_leave : {X R : Type 0} {may_call : MutBor (List Lexeme) → Type 0} {gives : Giving (Result X R)}
    {ts now new : List Lexeme} {r : Result X R} → ReadsItems may_call gives ts → IsProperRest ts now
    → Calls gives now r new → Leaves r now new
calls_leave {ts = ts} {now = now} {r = r} reads further calls =
    let left : Leaves r calls.given.now calls.left.now =
    reads.leaves calls.given calls.left r (subst (IsProperRest ts) (sym calls.given_is) further) calls.called in
    subst (Leaves r now) calls.left_is (subst (λ (old : List Lexeme). Leaves r old calls.left.now) calls.given_is left)

module _ {X R : Type 0} (gives : Giving (Result X R)) (opening closing : Token) where
  -- the opening token and these items were taken, and the closing token may come
  pub record ListSoFar (old : List Lexeme) (start : Place) (items : List X) (now : List Lexeme) : Type 0 where
    pub opener : Lexeme
    pub first : List Lexeme
    pub opens : expect_at opening old ≡ Ok (opener, first)
    pub chain : FoldsTo (OpenItem gives closing) first items now
    pub start_is : start ≡ opener.span.start
    pub further : IsProperRest old now

  -- the opening token and these items were taken, and an item has to come
  pub record NonemptySoFar (old : List Lexeme) (start : Place) (items : List X) (now : List Lexeme) : Type 0 where
    pub opener : Lexeme
    pub first : List Lexeme
    pub opens : expect_at opening old ≡ Ok (opener, first)
    pub chain : FoldsTo (ItemOpen gives closing) first items now
    pub start_is : start ≡ opener.span.start
    pub further : IsProperRest old now

-- ---- what the loops answer

-- an error that is passed on stays the same
pub passed_on : {A R : Type 0} {e : R} (r : Result A R) (P : R → Type 0) → IsErrAnd r (λ x. x ≡ e) → P e → IfErr r P
passed_on (Ok x) P h p = absurd h
passed_on (Err x) P h p = subst P (sym h) p

pub no_item_rest : {X R : Type 0} {may_call : MutBor (List Lexeme) → Type 0} {gives : Giving (Result X R)}
    {from : ParseFailure → R → Type 0} {old now new : List Lexeme} {e : R} → ReadsItems may_call gives old
    → IsProperRest old now → HasNoItem gives from now e new → IsRest old new
no_item_rest reads taken (HasNoItem.refused calls) = further _ _ _ taken.rest (calls_leave reads taken calls)
no_item_rest reads taken (HasNoItem.no_memory x calls made) =
    further _ _ _ taken.rest (calls_leave reads taken calls).rest

pub item_further : {X R : Type 0} {may_call : MutBor (List Lexeme) → Type 0} {gives : Giving (Result X R)}
    {old now new : List Lexeme} {x : X} → ReadsItems may_call gives old → IsProperRest old now
    → Calls gives now (Ok x) new → IsProperRest now new
item_further reads further calls = calls_leave reads further calls

-- a rest after an item
pub after_item : {X R : Type 0} {may_call : MutBor (List Lexeme) → Type 0} {gives : Giving (Result X R)}
    {old now middle new : List Lexeme} {x : X} → ReadsItems may_call gives old → IsProperRest old now
    → Calls gives now (Ok x) middle → IsRest middle new → IsProperRest old new
after_item reads taken calls rest = properly_further _ _ _ taken
    (further _ _ _ (item_further reads taken calls).rest rest)

module _ {X R : Type 0} {gives : Giving (Result X R)} {opening closing : Token} where
  pub list_done : {old now new : List Lexeme} {start end : Place} {items : List X} (from : ParseFailure → R → Type 0)
      → ListSoFar gives opening closing old start items now
      → (closer : Lexeme) × Closes closing now closer new × (end ≡ closer.span.end) × IsRest now new
      → ReadsList gives from opening closing old items (record { start = start; end = end }) new
  list_done {now = now} from so_far closed = record {
    opener = so_far.opener;
    first = so_far.first;
    last = now;
    closer = closed.0;
    opens = so_far.opens;
    chain = so_far.chain;
    closes = closed.1;
    start = so_far.start_is;
    end = closed.2;
  }

  pub list_item : {from : ParseFailure → R → Type 0} {old now middle new : List Lexeme} {start : Place} {items : List X}
      {e : R} → ListSoFar gives opening closing old start items now → GoesOn closing now × (middle ≡ now)
      → HasNoItem gives from middle e new → RefusesList gives from opening closing old e new
  list_item {from = from} {now = now} {new = new} {items = items} {e = e} so_far goes none =
      RefusesList.at_item so_far.opener so_far.first now items so_far.opens so_far.chain goes.0
      (subst (λ (ts : List Lexeme). HasNoItem gives from ts e new) goes.1 none)

  pub list_closing : {from : ParseFailure → R → Type 0} {old now new : List Lexeme} {start : Place} {items : List X}
      {e : R} → ListSoFar gives opening closing old start items now → IsRefused from (skip_at closing now) now e new
      → RefusesList gives from opening closing old e new
  list_closing {now = now} {items = items} so_far refused =
      RefusesList.at_closing so_far.opener so_far.first now items so_far.opens so_far.chain refused

  pub list_more : {may_call : MutBor (List Lexeme) → Type 0} {old now middle new : List Lexeme} {start : Place}
      {items all : List X} → ReadsItems may_call gives old → ListSoFar gives opening closing old start items now
      → GoesOn closing now × (middle ≡ now) → (x : X) × Calls gives middle (Ok x) new × (all ≡ items ++ x ∷ [])
      → ListSoFar gives opening closing old start all new
  list_more {now = now} {new = new} {items = items} reads so_far goes added =
      let calls : Calls gives now (Ok added.0) new = subst (λ (ts : List Lexeme). Calls gives ts (Ok added.0) new)
      goes.1 added.1 in
      record {
        opener = so_far.opener;
        first = so_far.first;
        opens = so_far.opens;
        chain = subst (λ (xs : List X). FoldsTo (OpenItem gives closing) so_far.first xs new) (sym added.2)
            (FoldsTo-push _ _ items _ added.0 new so_far.chain (goes.0, calls));
        start_is = so_far.start_is;
        further = properly_further _ _ _ so_far.further (item_further reads so_far.further calls).rest;
      }

  pub nonempty_done : {old now middle new : List Lexeme} {start end : Place} {items all : List X}
      (from : ParseFailure → R → Type 0) → NonemptySoFar gives opening closing old start items now
      → (x : X) × Calls gives now (Ok x) middle × (all ≡ items ++ x ∷ [])
      → (closer : Lexeme) × Closes closing middle closer new × (end ≡ closer.span.end) × IsRest middle new
      → ReadsNonempty gives from opening closing old all (record { start = start; end = end }) new
  nonempty_done {now = now} {middle = middle} {items = items} from so_far added closed = record {
    opener = so_far.opener;
    first = so_far.first;
    front = items;
    before = now;
    item = added.0;
    last = middle;
    closer = closed.0;
    opens = so_far.opens;
    chain = so_far.chain;
    ends = added.1;
    items_are = added.2;
    closes = closed.1;
    start = so_far.start_is;
    end = closed.2;
  }

  pub nonempty_item : {from : ParseFailure → R → Type 0} {old now new : List Lexeme} {start : Place} {items : List X}
      {e : R} → NonemptySoFar gives opening closing old start items now → HasNoItem gives from now e new
      → RefusesNonempty gives from opening closing old e new
  nonempty_item {now = now} {items = items} so_far none =
      RefusesNonempty.at_item so_far.opener so_far.first now items so_far.opens so_far.chain none

  pub nonempty_closing : {from : ParseFailure → R → Type 0} {old now middle new : List Lexeme} {start : Place}
      {items all : List X} {e : R} → NonemptySoFar gives opening closing old start items now
      → (x : X) × Calls gives now (Ok x) middle × (all ≡ items ++ x ∷ [])
      → IsRefused from (skip_at closing middle) middle e new → RefusesNonempty gives from opening closing old e new
  nonempty_closing {now = now} {middle = middle} {items = items} so_far added refused =
      RefusesNonempty.at_closing so_far.opener so_far.first now middle items added.0 so_far.opens so_far.chain added.1
      refused

  pub nonempty_more : {may_call : MutBor (List Lexeme) → Type 0} {old now middle new : List Lexeme} {start : Place}
      {items all : List X} → ReadsItems may_call gives old → NonemptySoFar gives opening closing old start items now
      → (x : X) × Calls gives now (Ok x) middle × (all ≡ items ++ x ∷ []) → GoesOn closing middle × (new ≡ middle)
      → NonemptySoFar gives opening closing old start all new
  nonempty_more {now = now} {middle = middle} {new = new} {items = items} reads so_far added goes =
      let calls : Calls gives now (Ok added.0) new = subst (Calls gives now (Ok added.0)) (sym goes.1) added.1 in
      let still : GoesOn closing new = subst (GoesOn closing) (sym goes.1) goes.0 in
      record {
        opener = so_far.opener;
        first = so_far.first;
        opens = so_far.opens;
        chain = subst (λ (xs : List X). FoldsTo (ItemOpen gives closing) so_far.first xs new) (sym added.2)
            (FoldsTo-push _ _ items _ added.0 new so_far.chain (calls, still));
        start_is = so_far.start_is;
        further = properly_further _ _ _ so_far.further (item_further reads so_far.further calls).rest;
      }
