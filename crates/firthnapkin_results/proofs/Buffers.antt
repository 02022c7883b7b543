-- Buffers that are filled from their beginning on.
use Rattle.std.proofs.Common.{◌∙◌, suc, ◌≤◌, List, [], ◌∷◌, ◌++◌, length, take, drop, set, refl, sym, ap}
use Rattle.std.proofs.lemmas.List.{take_all}
use Rattle.std.proofs.Math.Seq.{take-nil}
use Rattle.firthnapkin_results.specs.Answers.{Begins, Fills}

-- with nothing
pub fills_none : {A : Type 0} (old : List A) → Fills [] old old
fills_none [] = refl
fills_none (x ∷ xs) = refl

-- with one more, if there is capacity for it
pub fills_more : {A : Type 0} (xs old new : List A) (x : A) → Fills xs old new
    → Fills (xs ++ x ∷ []) old (set new (length xs) x)
fills_more [] [] new x e = ap (λ l. set l 0 x) e
fills_more [] (o ∷ os) new x e = ap (λ l. set l 0 x) e ∙ ap (λ l. x ∷ (l ++ os)) (sym (take-nil (length os)))
fills_more (y ∷ ys) [] new x e = ap (λ l. set l (suc (length ys)) x) e
fills_more (y ∷ ys) (o ∷ os) new x e =
    ap (λ l. set l (suc (length ys)) x) e
    ∙ ap (λ l. y ∷ l) (fills_more ys os (take (length os) ys ++ drop (length ys) os) x refl)

-- with all
pub begins_filled : {A : Type 0} (xs old new : List A) → Fills xs old new → length xs ≤ length old → Begins xs old new
begins_filled xs old new e l = e ∙ ap (λ t. t ++ drop (length xs) old) (take_all (length old) xs l)
