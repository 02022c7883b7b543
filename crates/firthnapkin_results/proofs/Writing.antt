-- What is written into a buffer from an index on, as far as it fits.
use Rattle.std.proofs.Common.{◌≡◌, ◌∙◌, ℕ, zero, suc, ◌+◌, ◌-◌, ◌<◌, ◌≤◌, List, [], ◌∷◌, ◌++◌, length, take, drop, set}
use Rattle.std.proofs.Common.{refl, sym, ap, ap₂, subst, arith, append_assoc, append-nil, length-append}
use Rattle.std.proofs.lemmas.List.{drop_all, drop-drop, length-drop, set_comm, set_past, take_all}
use Rattle.firthnapkin_results.specs.Answers.{Fills}
use Rattle.firthnapkin_results.specs.Builders.{with_written}
use Rattle.firthnapkin_results.proofs.Buffers.{fills_none, fills_more}

module _ {A : Type 0} where
  -- some, and then others
  pub written_append : (b : List A) (at : ℕ) (xs ys : List A)
      → with_written b at (xs ++ ys) ≡ with_written (with_written b at xs) (at + length xs) ys
  written_append b at [] ys = ap (λ (k : ℕ). with_written b k ys) (omega arith)
  written_append b at (x ∷ xs) ys =
      written_append (set b at x) (suc at) xs ys
      ∙ ap (λ (k : ℕ). with_written (with_written b at (x ∷ xs)) k ys) (omega arith)

  -- one is put before those that were written
  pub put_before : (b : List A) (i at : ℕ) (x : A) (xs : List A) → i < at
      → set (with_written b at xs) i x ≡ with_written (set b i x) at xs
  put_before b i at x [] l = refl
  put_before b i at x (y ∷ ys) l =
      put_before (set b at y) i (suc at) x ys (omega (arith, l))
      ∙ ap (λ (c : List A). with_written c (suc at) ys) (set_comm b at i y x (λ e. absurd (omega (arith, l, e))))

  -- from the beginning on
  fills_after : (ts xs old new : List A) → Fills ts old new → Fills (ts ++ xs) old (with_written new (length ts) xs)
  fills_after ts [] old new h = subst (λ (l : List A). Fills l old new) (sym (append-nil ts)) h
  fills_after ts (x ∷ xs) old new h =
      let more = fills_more ts old new x h in
      let rest = fills_after (ts ++ x ∷ []) xs old (set new (length ts) x) more in
      let count : length (ts ++ x ∷ []) ≡ suc (length ts) = length-append ts (x ∷ []) ∙ omega arith in
      subst (λ (l : List A). Fills l old (with_written (set new (length ts) x) (suc (length ts)) xs))
      (append_assoc ts (x ∷ []) xs)
      (subst (λ (k : ℕ). Fills ((ts ++ x ∷ []) ++ xs) old (with_written (set new (length ts) x) k xs)) count rest)

  pub fills_all : (xs old : List A) → Fills xs old (with_written old 0 xs)
  fills_all xs old = fills_after [] xs old old (fills_none old)

  -- ---- from an index on

  shift : (c : A) (b : List A) (at : ℕ) (xs : List A) → with_written (c ∷ b) (suc at) xs ≡ c ∷ with_written b at xs
  shift c b at [] = refl
  shift c b at (x ∷ xs) = shift c (set b at x) (suc at) xs

  seam : (at : ℕ) (b xs : List A) → at ≤ length b
      → with_written b at xs ≡ take at b ++ (take (length b - at) xs ++ drop (at + length xs) b)
  seam zero b xs l =
      fills_all xs b
      ∙ ap₂ (λ (m k : ℕ). take m xs ++ drop k b) (let e : length b ≡ length b - 0 = omega arith in e)
      (let e : length xs ≡ 0 + length xs = omega arith in e)
  seam (suc k) [] xs l = absurd (omega (arith, l))
  seam (suc k) (c ∷ b) xs l =
      let m : length b - k ≡ length (c ∷ b) - suc k = omega arith in
      let n : suc (k + length xs) ≡ suc k + length xs = omega arith in
      shift c b k xs
      ∙ (ap (λ (t : List A). c ∷ t) (seam k b xs (omega (arith, l)))
      ∙ ap₂ (λ (i j : ℕ). c ∷ (take k b ++ (take i xs ++ drop j (c ∷ b)))) m n)

  -- all of it fits
  pub fits_whole : (at : ℕ) (b xs : List A) → at ≤ length b → length xs ≤ length b - at
      → take at b ++ (xs ++ drop (length xs) (drop at b)) ≡ with_written b at xs
  fits_whole at b xs l few =
      sym (seam at b xs l ∙ ap₂ (λ (ys zs : List A). take at b ++ (ys ++ zs)) (take_all (length b - at) xs few)
      (sym (drop-drop (length xs) at b)))

  -- what is left of the buffer is filled
  pub fits_part : (at k : ℕ) (b xs ys : List A) → at ≤ length b → length b - at ≤ length xs
      → ys ≡ take (length b - at) xs
      → length b - at ≤ k → take at b ++ (ys ++ drop k (drop at b)) ≡ with_written b at xs
  fits_part at k b xs ys l many is all =
      sym (seam at b xs l ∙ ap₂ (λ (us vs : List A). take at b ++ (us ++ vs)) (sym is)
      (drop_all (at + length xs) b (omega (arith, l, many))
      ∙ sym (drop_all k (drop at b) (omega (arith, length-drop at b, all)))))

  -- none of it
  pub fits_not : (b : List A) (at : ℕ) (xs : List A) → length b ≤ at → b ≡ with_written b at xs
  fits_not b at [] l = refl
  fits_not b at (x ∷ xs) l =
      fits_not b (suc at) xs (omega (arith, l))
      ∙ ap (λ (c : List A). with_written c (suc at) xs) (sym (set_past b at x l))
