-- What holds of each element of a list.
use Rattle.std.proofs.Common.{◌∷◌, [], List, ◌++◌}
use Rattle.std.specs.List.{AllByRecursion}

module _ {X : Type 0} (P : X → Type 0) where
  pub all_front : (xs ys : List X) → AllByRecursion P (xs ++ ys) → AllByRecursion P xs
  all_front [] ys h = tt
  all_front (x ∷ xs) ys h = (h.0, all_front xs ys h.1)

  pub all_back : (xs ys : List X) → AllByRecursion P (xs ++ ys) → AllByRecursion P ys
  all_back [] ys h = h
  all_back (x ∷ xs) ys h = all_back xs ys h.1

  pub all_join : (xs ys : List X) → AllByRecursion P xs → AllByRecursion P ys → AllByRecursion P (xs ++ ys)
  all_join [] ys h k = k
  all_join (x ∷ xs) ys h k = (h.0, all_join xs ys h.1 k)

  pub all_map : (Q : X → Type 0) → ((x : X) → P x → Q x) → (xs : List X) → AllByRecursion P xs → AllByRecursion Q xs
  all_map Q f [] h = tt
  all_map Q f (x ∷ xs) h = (f x h.0, all_map Q f xs h.1)

  pub all_each : ((x : X) → P x) → (xs : List X) → AllByRecursion P xs
  all_each f [] = tt
  all_each f (x ∷ xs) = (f x, all_each f xs)
