-- The complexities of operations, outline by outline.
use Rattle.std.proofs.Common.{◌≡◌, ◌≤◌, ◌+◌, ℕ, suc, true, false, List, [], ◌∷◌, ◌++◌, length, drop, Some, sym}
use Rattle.std.proofs.Common.{Result, Ok, Err}
use Rattle.std.proofs.Common.{subst, arith, inl, inr, add-one, append_assoc, append-nil}
use Rattle.std.specs.List.{slice_get}
use Rattle.std.specs.Result.{IsErrAnd}
use Rattle.std.proofs.lemmas.Bool.{cases_eq}
use Rattle.juniper_outlines.specs.Outlines.{Outline, OutlineHas, OutlinesHave, no_outline, outline_of_fragment}
use Rattle.juniper_outlines.specs.Outlines.{outline_of_operation, EarlierOutlinesHave, BreaksAt, FirstBreak}
use Rattle.juniper_outlines.specs.Outlines.{FailsWithFirstBreak}
use Rattle.juniper_outlines.specs.device.Walk.{IsBroken}
use Rattle.juniper_outlines.specs.declared.complexity.Complexity.{Complexity}
use Rattle.juniper_outlines.specs.declared.complexity.ComplexityFailure.{ComplexityFailure}
use Rattle.juniper_outlines.specs.declared.complexity.ComplexityFailure.TheVariants as failure
use Rattle.juniper_outlines.specs.declared.operations.OperationComplexity.{OperationComplexity}
use Rattle.juniper_outlines.proofs.Places.{drop_at_get, drop_past}

module _ (g : List Outline) where
  -- with the complexities of the operations from this outline on, these are those of all
  abbrev pub Counted : ℕ → List OperationComplexity → Type 0
  Counted i cs = (rest : List OperationComplexity) → OutlinesHave g i (drop i g) rest
      → OutlinesHave g 0 g (cs ++ rest)

  one_on : (i : ℕ) (rest : List OperationComplexity) → OutlinesHave g (i + 1) (drop (i + 1) g) rest
      → OutlinesHave g (suc i) (drop (i + 1) g) rest
  one_on i rest k = subst (λ (n : ℕ). OutlinesHave g n (drop (i + 1) g) rest) (add-one i) k

  pub counted_fragment : (i : ℕ) (o : Outline) (cs : List OperationComplexity) → slice_get g i ≡ Some o
      → o.is_operation ≡ false → Counted i cs → Counted (i + 1) cs
  counted_fragment i o cs e q counted rest k =
      counted rest (subst (λ (z : List Outline). OutlinesHave g i z rest) (sym (drop_at_get g i o e))
      (outline_of_fragment q (one_on i rest k)))

  pub counted_operation : (i : ℕ) (o : Outline) (cs : List OperationComplexity) (c : Complexity)
      → slice_get g i ≡ Some o → o.is_operation ≡ true → OutlineHas g i c → Counted i cs
      → Counted (i + 1) (cs ++ record { definition = i; complexity = c } ∷ [])
  counted_operation i o cs c e q has counted rest k =
      let one : OperationComplexity = record { definition = i; complexity = c } in
      let all = counted (one ∷ rest)
      (subst (λ (z : List Outline). OutlinesHave g i z (one ∷ rest)) (sym (drop_at_get g i o e))
      (outline_of_operation c q has (one_on i rest k))) in
      subst (λ (z : List OperationComplexity). OutlinesHave g 0 g z) (sym (append_assoc cs (one ∷ []) rest)) all

  pub counted_all : (i : ℕ) (cs : List OperationComplexity) → length g ≤ i → Counted i cs → OutlinesHave g 0 g cs
  counted_all i cs le counted =
      let last : OutlinesHave g i (drop i g) [] =
      subst (λ (z : List Outline). OutlinesHave g i z []) (sym (drop_past g i le)) no_outline in
      subst (λ (z : List OperationComplexity). OutlinesHave g 0 g z) (append-nil cs) (counted [] last)

  pub before_fragment : (i : ℕ) (o : Outline) → slice_get g i ≡ Some o → o.is_operation ≡ false
      → EarlierOutlinesHave g i → EarlierOutlinesHave g (i + 1)
  before_fragment i o e q before j p lt f r = elim (cases_eq j i) [
    | inl same ↦ let at : slice_get g i ≡ Some p = subst (λ (n : ℕ). slice_get g n ≡ Some p) same f in
        let one : o ≡ p = cc in let wrong : o.is_operation ≡ true = rw one r in absurd cc
    | inr other ↦ before j p (omega arith) f r
  ]

  pub before_operation : (i : ℕ) (c : Complexity) → OutlineHas g i c → EarlierOutlinesHave g i
      → EarlierOutlinesHave g (i + 1)
  before_operation i c has before j p lt f r = elim (cases_eq j i) [
    | inl same ↦ (c, subst (λ (n : ℕ). OutlineHas g n c) (sym same) has)
    | inr other ↦ before j p (omega arith) f r
  ]

-- ---- failures

module _ (X : Type 0) (g : List Outline) (i : ℕ) (o : Outline) (stands : slice_get g i ≡ Some o)
    (is_one : o.is_operation ≡ true) (before : EarlierOutlinesHave g i) where
  first : (f : ComplexityFailure) → BreaksAt g i f → FirstBreak g i f
  first f breaks =
      record { outline = o; stands = stands; is_one = is_one; before = before; breaks = breaks o stands }

  fails : (f : ComplexityFailure) → IsBroken g i (Err f) → FailsWithFirstBreak g {X = X} (Err f)
  fails failure.Memory b = tt
  fails (failure.Cycle span) b = (i, first (failure.Cycle span) b)
  fails (failure.Unknown span) b = (i, first (failure.Unknown span) b)

  -- a result whose error is this failure fails with the first that can't be expanded
  pub fails_on : (r : Result X ComplexityFailure) (f : ComplexityFailure) (P : ComplexityFailure → Type 0)
      → IsErrAnd r P → ((z : ComplexityFailure) → P z → z ≡ f)
      → IsBroken g i (Err f) → FailsWithFirstBreak g r
  fails_on (Ok x) f P k same b = tt
  fails_on (Err z) f P k same b =
      subst (λ (y : ComplexityFailure). FailsWithFirstBreak g {X = X} (Err y)) (sym (same z k)) (fails f b)
