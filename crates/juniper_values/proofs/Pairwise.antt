-- Two lists that a loop compares item by item.
use Rattle.std.proofs.Common.{◌≡◌, ℕ, suc, ◌+◌, ◌<◌, ◌≤◌, Bool, true, false, ◌&&◌, List, [], ◌∷◌, length, get_or, drop, refl, sym, ap, ◌∙◌}
use Rattle.std.proofs.lemmas.List.{at_drop_all}
use Rattle.juniper_values.proofs.Reading.{drop_read}
use Rattle.juniper_values.proofs.BoolTests.{and_true, and_false, and_later}

-- `all` says whether the lists are of one length and `test` holds of each two items
module _ {A : Type 0} (all : List A → List A → Bool) (test : A → A → Bool)
    (none : all [] [] ≡ true)
    (shorter : (y : A) (ys : List A) → all [] (y ∷ ys) ≡ false)
    (longer : (x : A) (xs : List A) → all (x ∷ xs) [] ≡ false)
    (more : (x y : A) (xs ys : List A) → all (x ∷ xs) (y ∷ ys) ≡ (test x y && all xs ys)) where
  pub differ : (xs ys : List A) → (length xs ≡ length ys → ⊥) → all xs ys ≡ false
  differ [] [] h = absurd (h refl)
  differ [] (y ∷ ys) h = shorter y ys
  differ (x ∷ xs) [] h = longer x xs
  differ (x ∷ xs) (y ∷ ys) h = more x y xs ys ∙ and_later (test x y) (all xs ys) (differ xs ys (λ e. h (ap suc e)))

  module _ (xs ys : List A) (i : ℕ) (x y : A) (p : i < length xs) (q : i < length ys) (e : x ≡ get_or xs i x)
      (f : y ≡ get_or ys i y) where
    step : all (drop i xs) (drop i ys) ≡ (test x y && all (drop (i + 1) xs) (drop (i + 1) ys))
    step = (λ j. all (drop_read xs i x p e j) (drop_read ys i y q f j)) ∙ more x y (drop (i + 1) xs) (drop (i + 1) ys)

    -- a turn at items that pass
    pub passed : (r : Bool) → r ≡ all (drop i xs) (drop i ys) → test x y ≡ true
        → r ≡ all (drop (i + 1) xs) (drop (i + 1) ys)
    passed r so_far t = so_far ∙ step ∙ and_true (test x y) _ t

    -- and at items that do not
    pub failed : (r : Bool) → r ≡ all (drop i xs) (drop i ys) → test x y ≡ false → false ≡ r
    failed r so_far t = sym (so_far ∙ step ∙ and_false (test x y) _ t)

  -- after the last turn
  pub ended : (xs ys : List A) (i : ℕ) (r : Bool) → length xs ≤ i → length ys ≤ i → r ≡ all (drop i xs) (drop i ys)
      → true ≡ r
  ended xs ys i r p q so_far = sym (so_far ∙ at_drop_all (λ zs. all zs (drop i ys)) xs i p ∙ at_drop_all (all []) ys i q
      ∙ none)
