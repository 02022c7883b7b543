-- The nodes of a part that may be absent and of parts in a row tell them, where no such part stands after.
use Rattle.std.proofs.Common.{◌≡◌, ◌∷◌, [], List, ◌++◌, Option, Some, None, refl, sym, ap, ap₂, ◌∙◌, append_assoc}
use Rattle.std.specs.List.{AllByRecursion}
use Rattle.graphql_nodes.specs.Nodes.{Node, if_present, each}
use Rattle.graphql_nodes.proofs.Filled.{IfPresent}
use Rattle.graphql_nodes.proofs.Heads.{Apart}

module _ {A C : Type 0} (nodes : A → List (Node C)) (P : A → Type 0)
    (determined : (x y : A) → P x → P y → (r s : List (Node C)) → nodes x ++ r ≡ nodes y ++ s → (x ≡ y) × (r ≡ s)) where
  pub present_determined : (a b : Option A) → IfPresent P a → IfPresent P b → (r s : List (Node C)) → Apart nodes r
      → Apart nodes s
      → if_present nodes a ++ r ≡ if_present nodes b ++ s → (a ≡ b) × (r ≡ s)
  present_determined None None h k r s apart apart' e = (refl, e)
  present_determined None (Some y) h k r s apart apart' e = absurd (apart y s (sym e))
  present_determined (Some x) None h k r s apart apart' e = absurd (apart' x r e)
  present_determined (Some x) (Some y) h k r s apart apart' e = let t = determined x y h k r s e in (ap Some t.0, t.1)

  pub each_determined : (xs ys : List A) → AllByRecursion P xs → AllByRecursion P ys → (r s : List (Node C))
      → Apart nodes r
      → Apart nodes s
      → each nodes xs ++ r ≡ each nodes ys ++ s → (xs ≡ ys) × (r ≡ s)
  unfolding each
  each_determined [] [] h k r s apart apart' e = (refl, e)
  each_determined [] (y ∷ ys) h k r s apart apart' e =
      absurd (apart y (each nodes ys ++ s) (sym (e ∙ append_assoc (nodes y) (each nodes ys) s)))
  each_determined (x ∷ xs) [] h k r s apart apart' e =
      absurd (apart' x (each nodes xs ++ r) (sym (append_assoc (nodes x) (each nodes xs) r) ∙ e))
  each_determined (x ∷ xs) (y ∷ ys) h k r s apart apart' e =
      let same = sym (append_assoc (nodes x) (each nodes xs) r) ∙ (e ∙ append_assoc (nodes y) (each nodes ys) s) in
      let t = determined x y h.0 k.0 (each nodes xs ++ r) (each nodes ys ++ s) same in
      let u = each_determined xs ys h.1 k.1 r s apart apart' t.1 in
      (ap₂ (λ z zs. z ∷ zs) t.0 u.0, u.1)

  -- where nothing stands after
  pub all_determined : (xs ys : List A) → AllByRecursion P xs → AllByRecursion P ys → Apart nodes []
      → each nodes xs ≡ each nodes ys → xs ≡ ys
  all_determined xs ys h k apart e = (each_determined xs ys h k [] [] apart apart (ap (λ l. l ++ []) e)).0
