-- Elements after a write, what comes next in a list, and where in it something is found.
use Rattle.std.proofs.Common.{◌≡◌, ◌⊎◌, ◌<◌, ◌≤◌, ◌+◌, ℕ, zero, suc, Bool, true, false, cond, List, [], ◌∷◌, length}
use Rattle.std.proofs.Common.{◌++◌, set, drop, take, get_or, Some, refl, ap, sym, ◌∙◌, arith, add-one, inl, inr}
use Rattle.std.proofs.Math.Seq.{take-suc}
use Rattle.std.specs.List.{slice_get, position_from}
use Rattle.std.proofs.lemmas.Bool.{cases_eq}

module _ {A : Type 0} where
  pub get_set_same : (l : List A) (i : ℕ) (a x : A) → slice_get l i ≡ Some x → slice_get (set l i a) i ≡ Some a
  get_set_same [] i a x e = absurd cc
  get_set_same (y ∷ l) zero a x e = refl
  get_set_same (y ∷ l) (suc i) a x e = get_set_same l i a x e

  pub get_set_other : (l : List A) (i j : ℕ) (a : A) → (j ≡ i → ⊥) → slice_get (set l i a) j ≡ slice_get l j
  get_set_other [] i j a n = refl
  get_set_other (y ∷ l) zero zero a n = absurd (n refl)
  get_set_other (y ∷ l) zero (suc j) a n = refl
  get_set_other (y ∷ l) (suc i) zero a n = refl
  get_set_other (y ∷ l) (suc i) (suc j) a n = get_set_other l i j a (λ e. n (ap suc e))

  pub drop_at_get : (l : List A) (n : ℕ) (x : A) → slice_get l n ≡ Some x → drop n l ≡ x ∷ drop (n + 1) l
  drop_at_get [] n x e = absurd cc
  drop_at_get (y ∷ l) zero x e = let same : y ≡ x = cc in ap (λ z. z ∷ l) same
  drop_at_get (y ∷ l) (suc n) x e =
      let rest = drop_at_get l n x e in
      let one_on : suc n + 1 ≡ suc (n + 1) = omega arith in
      rw one_on rest

  pub drop_past : (l : List A) (n : ℕ) → length l ≤ n → drop n l ≡ []
  drop_past [] zero h = refl
  drop_past [] (suc n) h = refl
  drop_past (y ∷ l) zero h = absurd (omega arith)
  drop_past (y ∷ l) (suc n) h = drop_past l n (omega arith)

  pub take_next : (l : List A) (i : ℕ) (x : A) → i < length l → x ≡ get_or l i x → take (i + 1) l ≡ take i l ++ x ∷ []
  take_next l i x lt at =
      ap (λ k. take k l) (add-one i) ∙ (take-suc l i x lt ∙ ap (λ (y : A). take i l ++ y ∷ []) (sym at))

  -- the element at an index has been written, and no other
  pub record Written (old new : List A) (at : ℕ) (x : A) : Type 0 where
    pub here : slice_get new at ≡ Some x
    pub others : (i : ℕ) → (i ≡ at → ⊥) → slice_get new i ≡ slice_get old i

  pub written : (old new : List A) (at : ℕ) (x y : A) → slice_get old at ≡ Some y → new ≡ set old at x
      → Written old new at x
  written old new at x y e s = rw s
      (record { here = get_set_same old at x y e; others = λ i n. get_set_other old at i x n })

  pub read_back : (old new : List A) (at : ℕ) (x : A) → Written old new at x → (i : ℕ) (v : A)
      → slice_get new i ≡ Some v
      → ((i ≡ at) × (x ≡ v)) ⊎ ((i ≡ at → ⊥) × (slice_get old i ≡ Some v))
  read_back old new at x w i v e =
      let h = w.here in
      elim (cases_eq i at) [ inl q ↦ inl (q, cc) | inr q ↦ inr (q, sym (w.others i q) ∙ e) ]

pub position_below : {X : Type 0} (test : X → Bool) (i : ℕ) (xs : List X) (t : ℕ) → position_from test i xs ≡ Some t
    → t < i + length xs
position_below test i [] t e = absurd cc
position_below test i (x ∷ xs) t e =
    elim (test x) as (λ b. cond b (Some i) (position_from test (i + 1) xs) ≡ Some t → t < i + suc (length xs)) [
      | true ↦ λ f. (let s : i ≡ t = cc in omega arith)
      | false ↦ λ f. (let k = position_below test (i + 1) xs t f in omega arith)
    ] e
