-- What the outlines of a document's operations have, the operations have.
use Rattle.std.proofs.Common.{◌≡◌, ◌+◌, ℕ, suc, List, [], ◌∷◌, Some, Result, Ok, Err, refl, sym, subst, ◌∙◌, arith}
use Rattle.std.specs.List.{slice_get}
use Rattle.std.specs.Global.{Vec}
use Rattle.std.specs.Result.{IfOk}
use Rattle.graphql_grammar.specs.Tree.{Definition}
use Rattle.juniper_values.specs.Scalar.{Content}
use Rattle.juniper_outlines.specs.Definitions.{HaveNoSpreads, outlines_of, own_complexities}
use Rattle.juniper_outlines.specs.Outlines.{Outline, OutlinesHave, no_outline, outline_of_fragment}
use Rattle.juniper_outlines.specs.Outlines.{outline_of_operation, EarlierOutlinesHave, FirstBreak, FailsWithFirstBreak}
use Rattle.juniper_outlines.specs.declared.complexity.ComplexityFailure.{ComplexityFailure}
use Rattle.juniper_outlines.specs.declared.complexity.ComplexityFailure.TheVariants as failure
use Rattle.juniper_outlines.specs.declared.operations.OperationComplexity.{OperationComplexity}
use Rattle.juniper_outlines.specs.declared.outline.DefinitionOutline.{DefinitionOutline}
use Rattle.juniper_complexity.specs.Faults.{EarlierHave, SpreadFault, CannotExpand, FailsWithFirstFault}
use Rattle.juniper_complexity.specs.Faults.{OperationsHave, no_definition, fragment_first, operation_first}
use Rattle.juniper_complexity.specs.Gathered.{AreGathered}
use Rattle.juniper_complexity.specs.Parts.{spreads_of_definition, fragment_at}
use Rattle.juniper_complexity.specs.device.Outlines.{AreOutlines}
use Rattle.juniper_outlines.proofs.Public.{own_have}
use Rattle.juniper_complexity.proofs.Bridge.{bridged, fault_means, found, outlined}
use Rattle.juniper_complexity.proofs.Expanding.{expands}
use Rattle.juniper_complexity.proofs.ResolvedOutlines.{are_outlines}

-- ---- failures

module _ {C : Type 0} (ds : List (Definition C)) (g : List Outline) (h : AreOutlines (fragment_at ds) ds g) where
  earlier_mean : (at : ℕ) → EarlierOutlinesHave g at → EarlierHave ds at
  earlier_mean at before j d lt e is =
      let o = found (fragment_at ds) ds g h j d e in
      let k = before j o.0 lt o.1 (o.2.is_one ∙ is) in
      let m = bridged ds g h k.1 in
      (m.exact, expands ds j m.exact d m.has_it e)

  first_means : (X : Type 0) (at : ℕ) (f : ComplexityFailure) → FirstBreak g at f
      → FailsWithFirstFault {X = X} ds (Err f)
  first_means X at f b fault q =
      let d = outlined (fragment_at ds) ds g h at b.outline b.stands in
      let m = fault_means ds g h b.breaks (spreads_of_definition d.definition) d.outline.own_spreads in
      let seen = m.seen in
      let same : m.fault ≡ fault = cc in (
        at,
        record {
          operation = d.definition;
          stands = d.stands;
          is_one = sym d.outline.is_one ∙ b.is_one;
          before = earlier_mean at b.before;
          fault = subst (λ (z : SpreadFault). CannotExpand ds (at ∷ []) (spreads_of_definition d.definition) z) same
              m.cannot;
        },
      )

  -- A failure of outlines is that of the document.
  pub fails : {X : Type 0} (r : Result X ComplexityFailure) → FailsWithFirstBreak g r → FailsWithFirstFault ds r
  fails (Ok x) b = tt
  fails (Err failure.Memory) b = λ fault q. absurd cc
  fails {X} (Err (failure.Cycle span)) b = first_means X b.0 (failure.Cycle span) b.1
  fails {X} (Err (failure.Unknown span)) b = first_means X b.0 (failure.Unknown span) b.1

  -- ---- operations

  operations_from : {i : ℕ} {os : List Outline} {cs : List OperationComplexity} → OutlinesHave g i os cs
      → (es : List (Definition C)) → AreOutlines (fragment_at ds) es os
      → ((j : ℕ) (d : Definition C) → slice_get es j ≡ Some d → slice_get ds (i + j) ≡ Some d)
      → OperationsHave ds i es cs
  operations_from no_outline [] k at = no_definition
  operations_from no_outline (d ∷ es) k at = absurd k
  operations_from (outline_of_fragment q more) [] k at = absurd k
  operations_from {i} (outline_of_fragment q more) (d ∷ es) k at =
      fragment_first (sym k.0.is_one ∙ q) (operations_from more es k.1
      (λ j e is. subst (λ (n : ℕ). slice_get ds n ≡ Some e) (omega arith) (at (suc j) e is)))
  operations_from (outline_of_operation c q has more) [] k at = absurd k
  operations_from {i} (outline_of_operation c q has more) (d ∷ es) k at =
      let m = bridged ds g h has in
      let here : slice_get ds i ≡ Some d = subst (λ (n : ℕ). slice_get ds n ≡ Some d) (omega arith) (at 0 d refl) in
      let rest = operations_from more es k.1
      (λ j e is. subst (λ (n : ℕ). slice_get ds n ≡ Some e) (omega arith) (at (suc j) e is)) in
      rw m.is_capped (operation_first m.exact (sym k.0.is_one ∙ q) (expands ds i m.exact d m.has_it here) rest)

  -- What the outlines have, the document's operations have.
  pub operations_mean : (cs : List OperationComplexity) → OutlinesHave g 0 g cs → OperationsHave ds 0 ds cs
  operations_mean cs k =
      operations_from k ds h (λ j d is. subst (λ (n : ℕ). slice_get ds n ≡ Some d) (omega arith) is)

  pub all_mean : (r : Result (Vec OperationComplexity) ComplexityFailure)
      → IfOk r (λ cs. OutlinesHave g 0 g cs.items) → IfOk r (λ cs. OperationsHave ds 0 ds cs.items)
  all_mean (Ok cs) k = operations_mean cs.items k
  all_mean (Err f) k = k

-- Where no operation has a spread, each has its own complexity.
pub own_mean : (os : List DefinitionOutline) (ds : List (Definition Content)) → AreGathered os ds → HaveNoSpreads os
    → OperationsHave ds 0 ds (own_complexities 0 os)
own_mean os ds gathered nothing =
    operations_mean ds (outlines_of os) (are_outlines os ds gathered) (own_complexities 0 os) (own_have os nothing)
