-- More fuel changes no answer.
use Rattle.std.proofs.Common.{ℕ, zero, suc, Bool, true, false, ◌≡◌, ◌≤◌, ◌<◌, ◌∷◌, [], List, length, refl, sym, ap, ◌∙◌, arith, ◌⊎◌, inl, inr}
use Rattle.graphql_lexical.specs.Place.{Span}
use Rattle.graphql_lexical.specs.Cutting.{Lexeme}
use Rattle.graphql_grammar.specs.device.Reading.{Test, passes, Read, Took, Refused, Out, Reader, after, seq, on, pick, many, look, choose, with_span, give_span, repeated, fully, Symbol, Steps, gives, wants, takes, sees, part, symbol, spanned, scalar, closed, each, run}
use Rattle.graphql_grammar.specs.device.Productions.{steps_of, symbol_at, reads}
use Rattle.graphql_grammar.specs.Tree.{Scalars}
use Rattle.graphql_grammar.proofs.Rules.{Meets, Rule}

-- r ran out, or it is s
abbrev pub Below : {F A : Type 0} → Read F A → Read F A → Type 0
Below r s = (r ≡ Out) ⊎ (r ≡ s)

pub record Under {F A : Type 0} (f g : Reader F A) : Type 0 where
  pub at : (ts : List Lexeme) → Below (f ts) (g ts)

pub under_refl : {F A : Type 0} (f : Reader F A) → Under f f
under_refl f = record { at = λ ts. inr refl }

below_trans : {F A : Type 0} (a b c : Read F A) → Below a b → Below b c → Below a c
below_trans a b c (inl e) q = inl e
below_trans a b c (inr e) (inl q) = inl (e ∙ q)
below_trans a b c (inr e) (inr q) = inr (e ∙ q)

pub under_trans : {F A : Type 0} (f g h : Reader F A) → Under f g → Under g h → Under f h
under_trans f g h p q = record { at = λ ts. below_trans (f ts) (g ts) (h ts) (p.at ts) (q.at ts) }

after_below : {F A B : Type 0} (r s : Read F A) (k l : A → Reader F B) → Below r s → ((a : A) → Under (k a) (l a))
    → Below (after r k) (after s l)
after_below r s k l (inl e) h = inl (ap (λ z. after z k) e)
after_below {F} {B = B} (Took a rest) s k l (inr e) h = by_second (k a rest) ((h a).at rest)
  where
    by_second : (z : Read F B) → Below z (l a rest) → Below z (after s l)
    by_second z (inl q) = inl q
    by_second z (inr q) = inr (q ∙ ap (λ y. after y l) e)
after_below (Refused rest x) s k l (inr e) h = inr (ap (λ y. after y l) e)
after_below Out s k l (inr e) h = inl refl

pub seq_under : {F A B : Type 0} (f g : Reader F A) (k l : A → Reader F B) → Under f g → ((a : A) → Under (k a) (l a))
    → Under (seq f k) (seq g l)
unfolding seq
seq_under f g k l p h = record { at = λ ts. after_below (f ts) (g ts) k l (p.at ts) h }

pub on_under : {F A : Type 0} (test : Test) (k l : Lexeme → Reader F A) (f g : Reader F A)
    → ((t : Lexeme) → Under (k t) (l t)) → Under f g → Under (on test k f) (on test l g)
unfolding on
on_under {F} {A} test k l f g h p = record { at = by_list }
  where
    by_test : (b : Bool) (t : Lexeme) (ts : List Lexeme) → Below (pick b k f t ts) (pick b l g t ts)
    by_test true t ts = (h t).at ts
    by_test false t ts = p.at (t ∷ ts)

    by_list : (ts : List Lexeme) → Below (on test k f ts) (on test l g ts)
    by_list [] = p.at []
    by_list (t ∷ ts) = by_test (passes test t) t ts

pub many_under : {F A : Type 0} (close : Test) (f g : Reader F A) → Under f g → (n m : ℕ) → n ≤ m
    → Under (many close f n) (many close g m)
unfolding many
many_under close f g p zero m le = record { at = λ ts. inl refl }
many_under close f g p (suc n) zero le = absurd (omega arith)
many_under close f g p (suc n) (suc m) le =
    on_under close _ _ _ _ (λ t. under_refl _)
    (seq_under f g _ _ p (λ x. seq_under _ _ _ _ (many_under close f g p n m (omega arith)) (λ r. under_refl _)))

pub look_under : {F A : Type 0} (test : Test) (f g k l : Reader F A) → Under f k → Under g l
    → Under (look test f g) (look test k l)
unfolding look
look_under {F} {A} test f g k l p q = record { at = by_list }
  where
    by_test : (b : Bool) (ts : List Lexeme) → Below (choose b f g ts) (choose b k l ts)
    by_test true ts = p.at ts
    by_test false ts = q.at ts

    by_list : (ts : List Lexeme) → Below (look test f g ts) (look test k l ts)
    by_list [] = q.at []
    by_list (t ∷ ts) = by_test (passes test t) (t ∷ ts)

span_below : {F A : Type 0} (ts : List Lexeme) (r s : Read F (Span → A)) → Below r s
    → Below (after r (give_span ts)) (after s (give_span ts))
span_below ts r s (inl e) = inl (rw e refl)
span_below ts r s (inr e) = inr (rw e refl)

pub span_under : {F A : Type 0} (f g : Reader F (Span → A)) → Under f g → Under (with_span f) (with_span g)
unfolding with_span
span_under f g p = record { at = λ ts. span_below ts (f ts) (g ts) (p.at ts) }

pub repeated_under : {F A : Type 0} (test : Test) (f g : Reader F A) → Under f g → (n m : ℕ) → n ≤ m
    → Under (repeated test f n) (repeated test g m)
unfolding repeated
repeated_under test f g p zero m le = record { at = λ ts. inl refl }
repeated_under test f g p (suc n) zero le = absurd (omega arith)
repeated_under test f g p (suc n) (suc m) le =
    look_under test _ _ _ _ (seq_under f g _ _ p (λ x. seq_under _ _ _ _ (repeated_under test f g p n m (omega arith))
    (λ xs. under_refl _))) (under_refl _)

-- ---- programs

module _ {C F : Type 0} (S : Scalars C F) where
  pub run_under : (f g : (A : Type 0) → Symbol C A → Reader F A) (n m : ℕ) → n ≤ m
      → ((A : Type 0) (r : Symbol C A) → Under (f A r) (g A r)) → {A : Type 0} (p : Steps C A)
      → Under (run S f n p) (run S g m p)
  run_under f g n m le h (gives a) = under_refl _
  run_under f g n m le h (wants test k) = seq_under _ _ _ _ (under_refl _) (λ t. run_under f g n m le h (k t))
  run_under f g n m le h (takes test k p) =
      on_under test _ _ _ _ (λ t. run_under f g n m le h (k t)) (run_under f g n m le h p)
  run_under f g n m le h (sees test p q) =
      look_under test _ _ _ _ (run_under f g n m le h p) (run_under f g n m le h q)
  run_under f g n m le h (part p k) = seq_under _ _ _ _ (run_under f g n m le h p) (λ x. run_under f g n m le h (k x))
  run_under f g n m le h {A} (symbol r) = h A r
  run_under f g n m le h (spanned p) = span_under _ _ (run_under f g n m le h p)
  run_under f g n m le h (scalar k) = seq_under _ _ _ _ (under_refl _) (λ v. run_under f g n m le h (k v))
  run_under f g n m le h (closed close p k) =
      seq_under _ _ _ _ (many_under close _ _ (run_under f g n m le h p) n m le)
      (λ r. run_under f g n m le h (k r.0 r.1.span))
  run_under f g n m le h (each test p k) =
      seq_under _ _ _ _ (repeated_under test _ _ (run_under f g n m le h p) n m le)
      (λ xs. run_under f g n m le h (k xs))

  pub symbol_under : (n m : ℕ) → n ≤ m → (A : Type 0) (r : Symbol C A) → Under (symbol_at S n A r) (symbol_at S m A r)
  unfolding symbol_at
  symbol_under zero m le A r = record { at = λ ts. inl refl }
  symbol_under (suc n) zero le A r = absurd (omega arith)
  symbol_under (suc n) (suc m) le A r = record {
    at = (run_under (symbol_at S n) (symbol_at S m) n m (omega arith) (symbol_under n m (omega arith))
        (steps_of S r)).at;
  }

  pub reads_under : {A : Type 0} (p : Steps C A) (n m : ℕ) → n ≤ m → Under (reads S n p) (reads S m p)
  reads_under p n m le = run_under (symbol_at S n) (symbol_at S m) n m le (symbol_under n m le) p

-- ---- enough fuel

-- A reader that answers wherever the fuel exceeds the list.
pub record Answers {F A : Type 0} (f : ℕ → Reader F A) : Type 0 where
  pub under : (n m : ℕ) → n ≤ m → Under (f n) (f m)
  pub at : (n : ℕ) (ts : List Lexeme) → length ts < n → f n ts ≡ Out → ⊥

-- A reader that keeps a rule answers where the fuel exceeds the list.
pub not_out : {F A : Type 0} (n : ℕ) (f g : Reader F A) (R : A → List Lexeme → Type 0) → Rule n f g R
    → (ts : List Lexeme) → length ts < n → f ts ≡ Out → ⊥
not_out n f g R r ts le e = by_meets (f ts) e (r.at ts)
  where
    by_meets : (z : Read _ _) → z ≡ Out → Meets n R g ts z → ⊥
    by_meets (Took a rest) q m = absurd (cc q)
    by_meets (Refused rest x) q m = absurd (cc q)
    by_meets Out q m = absurd (omega (arith, m.0))

module _ {F A : Type 0} (f : ℕ → Reader F A) (w : Answers f) where
  -- Any fuel gives no other answer than enough of it.
  pub settled : (n : ℕ) → Under (f n) (fully f)
  unfolding fully
  settled n = record { at = λ ts. by_order ts (nat_order n (suc (length ts))) }
    where
      nat_order : (a b : ℕ) → (a ≤ b) ⊎ (b ≤ a)
      nat_order zero b = inl (omega arith)
      nat_order (suc a) zero = inr (omega arith)
      nat_order (suc a) (suc b) = by_case (nat_order a b)
        where
          by_case : (a ≤ b) ⊎ (b ≤ a) → (suc a ≤ suc b) ⊎ (suc b ≤ suc a)
          by_case (inl h) = inl (omega (arith, h))
          by_case (inr h) = inr (omega (arith, h))

      by_answer : (ts : List Lexeme) → Below (f (suc (length ts)) ts) (f n ts) → Below (f n ts) (f (suc (length ts)) ts)
      by_answer ts (inl e) = absurd (w.at (suc (length ts)) ts (omega arith) e)
      by_answer ts (inr e) = inr (sym e)

      by_order : (ts : List Lexeme) → (n ≤ suc (length ts)) ⊎ (suc (length ts) ≤ n) → Below (f n ts) (fully f ts)
      by_order ts (inl h) = (w.under n (suc (length ts)) h).at ts
      by_order ts (inr h) = by_answer ts ((w.under (suc (length ts)) n h).at ts)

  -- What the step answers, where its parts have enough, is the answer.
  pub steps : (g : Reader F A) (ts : List Lexeme) → Below (f (suc (length ts)) ts) (g ts) → fully f ts ≡ g ts
  unfolding fully
  steps g ts (inl e) = absurd (w.at (suc (length ts)) ts (omega arith) e)
  steps g ts (inr e) = e

-- a reader that keeps a rule, and that more fuel doesn't change
pub answers : {F A : Type 0} (f : ℕ → Reader F A) (R : A → List Lexeme → Type 0) →
    ((n m : ℕ) → n ≤ m → Under (f n) (f m))
    → ((n : ℕ) → Rule n (f n) (f n) R) → Answers f
answers f R u r = record { under = u; at = λ n ts le. not_out n (f n) (f n) R (r n) ts le }
