-- A run of characters at which a machine on bytes stays.
use Rattle.std.proofs.Common.{◌≡◌, ℕ, suc, ◌+◌, ◌-◌, ◌≤◌, Bool, true, false, cond, List, [], ◌∷◌, length, take, drop, drop-drop, Option, Some, None, refl, sym, ap, subst, ◌∙◌, arith, length-drop}
use Rattle.std.proofs.lemmas.List.{take_all}
use Rattle.graphql_lexical.specs.device.Machines.{reach}
use Rattle.graphql_lexical.specs.device.Scan.{step}
use Rattle.juniper_tokens.specs.declared.lexer.run.Run.{Run}
use Rattle.juniper_tokens.specs.declared.lexer.text.Offset.{Offset}
use Rattle.juniper_tokens.specs.device.ByteRuns.{is_inner, byte_step, with_value, on, Walked}
use Rattle.juniper_tokens.specs.device.Walks.{run_test, run_machine, RunsTo}
use Rattle.juniper_tokens.proofs.ByteRuns.{on_next, on_none, step_once}

module _ {S X : Type 0} (step : S → ℕ → Option S) (f : X → ℕ → X) (r : Run) (q : S) (v : ℕ → X)
    (stays : (c : ℕ) → run_test r c ≡ true → step q c ≡ Some q)
    (next : (k c : ℕ) → run_test r c ≡ true → f (v k) c ≡ v (k + 1)) where
  abbrev machine : S × X → ℕ → Option (S × X)
  machine = byte_step (with_value step f)

  abbrev over : ℕ → List ℕ → ℕ × (Unit {0} × ℕ)
  over k bs = reach (run_machine r) (tt, k) bs

  -- what has been gone over where the run has come so far
  abbrev Goes : ℕ → List ℕ → ℕ × (Unit {0} × ℕ) → Type 0
  Goes k bs o = reach machine (q, v k) bs ≡ on o.0 (reach machine (q, v o.1.1) (drop o.0 bs))

  at_run : (k b : ℕ) (i t : Bool) → is_inner b ≡ i → run_test r b ≡ t
      → run_machine r (tt, k) b ≡ cond i (Some (tt, k)) (cond t (Some (tt, k + 1)) None)
  at_run k b true t e g = rw e refl
  at_run k b false true e g = rw (e, g) refl
  at_run k b false false e g = rw (e, g) refl

  at_inner : (k b : ℕ) → is_inner b ≡ true → machine (q, v k) b ≡ Some (q, v k)
  at_inner k b e = rw e refl

  at_test : (k b : ℕ) → is_inner b ≡ false → run_test r b ≡ true → machine (q, v k) b ≡ Some (q, v (k + 1))
  at_test k b e g = rw (e, stays b g) (ap (λ x. Some (q, x)) (next k b g))

  one_more : (k j b : ℕ) (bs : List ℕ) → run_machine r (tt, k) b ≡ Some (tt, j)
      → machine (q, v k) b ≡ Some (q, v j) → Goes j bs (over j bs) → Goes k (b ∷ bs) (over k (b ∷ bs))
  one_more k j b bs e g h =
      subst (Goes k (b ∷ bs)) (sym (step_once (run_machine r) (tt, k) bs b (Some (tt, j)) e))
      (step_once machine (q, v k) bs b (Some (q, v j)) g
      ∙ (ap (λ (x : ℕ × (S × X)). (suc x.0, x.1)) h
      ∙ on_next (over j bs).0 (reach machine (q, v (over j bs).1.1) (drop (over j bs).0 bs))))

  no_more : (k b : ℕ) (bs : List ℕ) → run_machine r (tt, k) b ≡ None → Goes k (b ∷ bs) (over k (b ∷ bs))
  no_more k b bs e =
      subst (Goes k (b ∷ bs)) (sym (step_once (run_machine r) (tt, k) bs b None e))
      (on_none (reach machine (q, v k) (b ∷ bs)))

  goes : (bs : List ℕ) (k : ℕ) → Goes k bs (over k bs)
  goes [] k = refl
  goes (b ∷ bs) k = by_tests (is_inner b) (run_test r b) refl refl (goes bs k) (goes bs (k + 1))
    where
      by_tests : (i t : Bool) → is_inner b ≡ i → run_test r b ≡ t → Goes k bs (over k bs)
          → Goes (k + 1) bs (over (k + 1) bs) → Goes k (b ∷ bs) (over k (b ∷ bs))
      by_tests true t e g h m = one_more k k b bs (at_run k b true t e g) (at_inner k b e) h
      by_tests false true e g h m = one_more k (k + 1) b bs (at_run k b false true e g) (at_test k b e g) m
      by_tests false false e g h m = no_more k b bs (at_run k b false false e g)

  pub goes_over : (bs : List ℕ) (b : Offset) → RunsTo r bs b
      → reach machine (q, v 0) bs ≡ on b.bytes (reach machine (q, v b.characters) (drop b.bytes bs))
  goes_over bs b h = subst (Goes 0 bs) h (goes bs 0)

-- where a loop goes on from place i, over so many of the bytes that are left
pub walked_further : {S : Type 0} (step : S → ℕ → Option S) (q0 q p : S) (bytes tail : List ℕ) (i n : ℕ)
    → tail ≡ take (length bytes - i) (drop i bytes) → n ≤ length tail
    → reach step q tail ≡ on n (reach step p (drop n tail))
    → Walked step q0 bytes i q → Walked step q0 bytes (i + n) p
walked_further step q0 q p bytes tail i n e l h w =
    let whole : tail ≡ drop i bytes = e ∙ take_all (length bytes - i) (drop i bytes)
    (omega (arith, length-drop i bytes)) in
    record {
      within = omega (arith, l, ap length whole, length-drop i bytes, w.within);
      same =
          ap (λ t. on (i + n) (reach step p t)) (sym (ap (drop n) whole ∙ drop-drop n i bytes))
          ∙ (twice i n (reach step p (drop n tail))
          ∙ (sym (ap (on i) (sym (ap (reach step q) whole) ∙ h)) ∙ w.same));
    }
  where
    plus_plus : (a b c : ℕ) → (a + b) + c ≡ a + (b + c)
    plus_plus a b c = omega arith

    twice : {S : Type 0} (a b : ℕ) (x : ℕ × S) → on (a + b) x ≡ on a (on b x)
    twice a b x = ap (λ k. (k, x.1)) (plus_plus a b x.0)

pub walked_none : {S : Type 0} (step : S → ℕ → Option S) (q0 : S) (bytes : List ℕ) → Walked step q0 bytes 0 q0
walked_none step q0 bytes = record {
  within = omega arith;
  same = sym (on_none (reach step q0 bytes));
}

pub same_place : {S : Type 0} (step : S → ℕ → Option S) (q0 p : S) (bytes : List ℕ) (i j : ℕ) → i ≡ j
    → Walked step q0 bytes i p → Walked step q0 bytes j p
same_place step q0 p bytes i j e w = subst (λ k. Walked step q0 bytes k p) e w

pub plus_none : (n : ℕ) → n + 0 ≡ n
plus_none n = omega arith

pub plus_plus : (a b c : ℕ) → (a + b) + c ≡ a + (b + c)
plus_plus a b c = omega arith
