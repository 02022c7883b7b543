-- Loops over items: what was read so far, and what reading gives from here, make what reading gives in all.
use Rattle.std.proofs.Common.{◌≡◌, Bool, true, false, cond, List, [], ◌∷◌, ◌++◌, Ok, Err, Option, Some, None, refl, sym, ap, ◌∙◌, append_assoc}
use Rattle.std.proofs.lemmas.List.{append-nil}
use Rattle.graphql_lexical.specs.Place.{Span}
use Rattle.graphql_lexical.specs.Cutting.{Lexeme}
use Rattle.juniper_tokens.specs.declared.error.ParseFailure.{ParseFailure}
use Rattle.juniper_tokens.specs.declared.error.ParseFailure.TheVariants as failures
use Rattle.juniper_tokens.specs.Errors.{view_fault}
use Rattle.juniper_tokens.specs.Cursor.{Read, Fails, ◌>>=◌, EndsOnce}

-- one item, and then others
abbrev pub then_others : {A B : Type 0} → A → Read (List A × B) → Read (List A × B)
then_others a r = r >>= λ x. Ok ((a ∷ x.0.0, x.0.1), x.1)

-- these items, and then those that are read, with what stands after them
abbrev pub with_front : {A B : Type 0} → List A → Read (List A × B) → Read (List A × B)
with_front front r = r >>= λ x. Ok ((front ++ x.0.0, x.0.1), x.1)

regroup : {A B : Type 0} (front : List A) (a : A) (r : Read (List A × B))
    → with_front front (then_others a r) ≡ with_front (front ++ a ∷ []) r
regroup front a (Ok x) = ap (λ (as' : List _). Ok ((as', x.0.1), x.1)) (sym (append_assoc front (a ∷ []) x.0.0))
regroup front a (Err e) = refl

-- ---- a closing token is looked for before each item

abbrev pub closed_or : {A : Type 0} → (List Lexeme → Read A) → (List Lexeme → Read (List A × Span)) → Option Span
    → List Lexeme → Read (List A × Span)
closed_or item more (Some q) ts = Ok (([], q), ts)
closed_or item more None ts = item ts >>= λ x. then_others x.0 (more x.1)

-- items up to the closing token
pub record Repeats {A : Type 0} (close : List Lexeme → Option Span × List Lexeme) (item : List Lexeme → Read A)
    (more : List Lexeme → Read (List A × Span)) : Type 0 where
  pub unfolds : (ts : List Lexeme) → EndsOnce ts → more ts ≡ closed_or item more (close ts).0 (close ts).1

-- p is what is left where a turn of the loop begins
module _ {A : Type 0} {close : List Lexeme → Option Span × List Lexeme} {item : List Lexeme → Read A}
    {more : List Lexeme → Read (List A × Span)} (u : Repeats close item more)
    (front : List A) (p : List Lexeme) {total : Read (List A × Span)} (ended : EndsOnce p)
    (so_far : with_front front (more p) ≡ total) where
  pub goes_on : {a : A} {q r : List Lexeme} → (None, q) ≡ close p → item q ≡ Ok (a, r)
      → with_front (front ++ a ∷ []) (more r) ≡ total
  goes_on {a} {q} {r} opened first =
      let one : more p ≡ then_others a (more r) = u.unfolds p ended ∙ rw (sym opened, first) refl in
      sym (ap (with_front front) one ∙ regroup front a (more r)) ∙ so_far

  pub ends : {c : Span} {q : List Lexeme} → (Some c, q) ≡ close p → total ≡ Ok ((front, c), q)
  ends {c} {q} closed =
      let one : more p ≡ Ok (([], c), q) = u.unfolds p ended ∙ rw (sym closed) refl in
      sym so_far ∙ ap (with_front front) one ∙ ap (λ (as' : List A). Ok ((as', c), q)) (append-nil front)

  pub item_fails : (e : ParseFailure) (left : List Lexeme) {q : List Lexeme} → (None, q) ≡ close p
      → Fails e left (item q) → Fails e left total
  item_fails failures.Memory left opened fails = tt
  item_fails (failures.Refused e) left opened fails =
      let one : more p ≡ Err (view_fault e, left) = u.unfolds p ended ∙ rw (sym opened, fails) refl in
      sym so_far ∙ ap (with_front front) one

-- ---- a closing token is looked for after each item

-- these items, and then those that are read
abbrev pub before_others : {A : Type 0} → List A → Read (List A) → Read (List A)
before_others front r = r >>= λ x. Ok (front ++ x.0, x.1)

pub before_none : {A : Type 0} (r : Read (List A)) → before_others [] r ≡ r
before_none (Ok x) = refl
before_none (Err e) = refl

pub before_regroup : {A : Type 0} (front : List A) (a : A) (r : Read (List A))
    → before_others front (r >>= λ x. Ok (a ∷ x.0, x.1)) ≡ before_others (front ++ a ∷ []) r
before_regroup front a (Ok x) = ap (λ (as' : List _). Ok (as', x.1)) (sym (append_assoc front (a ∷ []) x.0))
before_regroup front a (Err e) = refl

-- an item, and then the others, without the span of what closes them
abbrev pub and_others : {A : Type 0} → A → Read (List A × Span) → Read (List A)
and_others a r = r >>= λ x. Ok (a ∷ x.0.0, x.1)

passed_on : {A : Type 0} (a : A) (item : Read A) (more : List Lexeme → Read (List A × Span))
    → and_others a (item >>= λ x. then_others x.0 (more x.1))
    ≡ ((item >>= λ x. and_others x.0 (more x.1)) >>= λ xs. Ok (a ∷ xs.0, xs.1))
passed_on {A} a (Ok x) more = by_rest (more x.1)
  where
    by_rest : (r : Read (List A × Span))
        → and_others a (then_others x.0 r) ≡ (and_others x.0 r >>= λ xs. Ok (a ∷ xs.0, xs.1))
    by_rest (Ok y) = refl
    by_rest (Err e) = refl
passed_on a (Err e) more = refl

-- one item or more, up to the closing token
pub record RepeatsSome {A : Type 0} (close : List Lexeme → Option Span × List Lexeme) (item : List Lexeme → Read A)
    (some : List Lexeme → Read (List A)) : Type 0 where
  pub more : List Lexeme → Read (List A × Span)
  pub first : (ts : List Lexeme) → some ts ≡ (item ts >>= λ x. and_others x.0 (more x.1))
  pub repeats : Repeats close item more

module _ {A : Type 0} {close : List Lexeme → Option Span × List Lexeme} {item : List Lexeme → Read A}
    {some : List Lexeme → Read (List A)} (u : RepeatsSome close item some)
    (front : List A) (p : List Lexeme) {total : Read (List A)} (so_far : before_others front (some p) ≡ total) where
  pub some_go_on : {a : A} {q r : List Lexeme} → item p ≡ Ok (a, q) → EndsOnce q → (None, r) ≡ close q
      → before_others (front ++ a ∷ []) (some r) ≡ total
  some_go_on {a} {q} {r} first ended opened =
      let one : some p ≡ and_others a (u.more q) = u.first p ∙ rw first refl in
      let others : u.more q ≡ (item r >>= λ x. then_others x.0 (u.more x.1)) =
      u.repeats.unfolds q ended ∙ rw (sym opened) refl in
      let all : some p ≡ (some r >>= λ xs. Ok (a ∷ xs.0, xs.1)) =
      one ∙ ap (and_others a) others ∙ passed_on a (item r) u.more
      ∙ ap (λ (z : Read (List A)). z >>= λ xs. Ok (a ∷ xs.0, xs.1)) (sym (u.first r)) in
      sym (ap (before_others front) all ∙ before_regroup front a (some r)) ∙ so_far

  pub some_end : {a : A} {c : Span} {q r : List Lexeme} → item p ≡ Ok (a, q) → EndsOnce q → (Some c, r) ≡ close q
      → total ≡ Ok (front ++ a ∷ [], r)
  some_end {a} {c} {q} {r} first ended closed =
      let one : some p ≡ and_others a (u.more q) = u.first p ∙ rw first refl in
      let none : u.more q ≡ Ok (([], c), r) = u.repeats.unfolds q ended ∙ rw (sym closed) refl in
      sym so_far ∙ ap (before_others front) (one ∙ ap (and_others a) none)

  pub some_item_fails : (e : ParseFailure) (left : List Lexeme) → Fails e left (item p) → Fails e left total
  some_item_fails failures.Memory left fails = tt
  some_item_fails (failures.Refused e) left fails =
      let one : some p ≡ Err (view_fault e, left) = u.first p ∙ rw fails refl in
      sym so_far ∙ ap (before_others front) one

-- ---- items as long as a token stands next

-- items as long as the test holds
pub record RepeatsWhile {A : Type 0} (test : List Lexeme → Bool) (item : List Lexeme → Read A)
    (each : List Lexeme → Read (List A)) : Type 0 where
  pub unfolds : (ts : List Lexeme) → EndsOnce ts
      → each ts ≡ cond (test ts) (item ts >>= λ d. each d.1 >>= λ ds. Ok (d.0 ∷ ds.0, ds.1)) (Ok ([], ts))

module _ {A : Type 0} {test : List Lexeme → Bool} {item : List Lexeme → Read A} {each : List Lexeme → Read (List A)}
    (u : RepeatsWhile test item each) (front : List A) (p : List Lexeme) {total : Read (List A)} (ended : EndsOnce p)
    (so_far : before_others front (each p) ≡ total) where
  pub before_go_on : test p ≡ true → {a : A} {q : List Lexeme} → item p ≡ Ok (a, q)
      → before_others (front ++ a ∷ []) (each q) ≡ total
  before_go_on holds {a} {q} first =
      let one : each p ≡ (each q >>= λ ds. Ok (a ∷ ds.0, ds.1)) = u.unfolds p ended ∙ rw (holds, first) refl in
      sym (ap (before_others front) one ∙ before_regroup front a (each q)) ∙ so_far

  pub before_end : test p ≡ false → total ≡ Ok (front, p)
  before_end fails =
      let one : each p ≡ Ok ([], p) = u.unfolds p ended ∙ rw fails refl in
      sym so_far ∙ ap (before_others front) one ∙ ap (λ (as' : List A). Ok (as', p)) (append-nil front)

  pub before_fail : test p ≡ true → (e : ParseFailure) (left : List Lexeme) → Fails e left (item p)
      → Fails e left total
  before_fail holds failures.Memory left fails = tt
  before_fail holds (failures.Refused e) left fails =
      let one : each p ≡ Err (view_fault e, left) = u.unfolds p ended ∙ rw (holds, fails) refl in
      sym so_far ∙ ap (before_others front) one

-- what fails first fails in all
pub after_fails : {A B : Type 0} (e : ParseFailure) (left : List Lexeme) (r : Read A) (f : (A × List Lexeme) → Read B)
    → Fails e left r → Fails e left (r >>= f)
after_fails failures.Memory left r f fails = tt
after_fails (failures.Refused e) left r f fails = rw fails refl
