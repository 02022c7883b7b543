-- The complexities of a document's operations, and the first spread that can't be expanded
-- (GraphQL specification, October 2021, sections 5.5.2.1 and 5.5.2.2).
use Rattle.std.specs.Prelude.{◌≡◌, ◌<◌, ℕ, suc, true, false, List, [], ◌∷◌, slice_get, Option, Some, None, Result}
use Rattle.std.specs.Prelude.{Ok, Err}
use Rattle.graphql_lexical.specs.Place.{Span}
use Rattle.graphql_grammar.specs.Tree.{Definition}
use Rattle.juniper_tokens.specs.Spans.{view_span}
use Rattle.juniper_outlines.specs.Complexities.{capped_complexity}
use Rattle.juniper_outlines.specs.Outlines.{IsAmong}
use Rattle.juniper_complexity.specs.Parts.{Reference, spreads_of_definition, is_operation, fragment_at}
use Rattle.juniper_complexity.specs.Expansion.{DefinitionHas}
use Rattle.juniper_outlines.specs.declared.complexity.Complexity.{Complexity}
use Rattle.juniper_outlines.specs.declared.complexity.ComplexityFailure.{ComplexityFailure}
use Rattle.juniper_outlines.specs.declared.complexity.ComplexityFailure.TheVariants as failure
use Rattle.juniper_outlines.specs.declared.operations.OperationComplexity.{OperationComplexity}

-- what is wrong with a spread, and its span
pub data SpreadFault : Type 0 where
  OfCycle : Span → SpreadFault
  OfUnknown : Span → SpreadFault

module _ {C : Type 0} (document : List (Definition C)) where
  -- These spreads are in a definition that is being expanded inside those of these indexes, itself among them. The
  -- first one that can't be expanded, in the order of the text, each one before it expanded first, has this fault: it
  -- names no fragment, or one that is being expanded.
  pub data CannotExpand : List ℕ → List Reference → SpreadFault → Type 0 where
    of_none : {inside : List ℕ} {r : Reference} {rs : List Reference} → fragment_at document r.name ≡ None
        → CannotExpand inside (r ∷ rs) (OfUnknown r.span)
    of_outer : {inside : List ℕ} {r : Reference} {rs : List Reference} (t : ℕ) → fragment_at document r.name ≡ Some t
        → IsAmong t inside → CannotExpand inside (r ∷ rs) (OfCycle r.span)
    in_fragment : {inside : List ℕ} {r : Reference} {rs : List Reference} {f : SpreadFault} (t : ℕ) (d : Definition C)
        → fragment_at document r.name ≡ Some t → ¬ IsAmong t inside → slice_get document t ≡ Some d
        → CannotExpand (t ∷ inside) (spreads_of_definition d) f → CannotExpand inside (r ∷ rs) f
    in_others : {inside : List ℕ} {r : Reference} {rs : List Reference} {f : SpreadFault} (t : ℕ) (d : Definition C)
        (b : Complexity) → fragment_at document r.name ≡ Some t → slice_get document t ≡ Some d
        → DefinitionHas document d b
        → CannotExpand inside rs f → CannotExpand inside (r ∷ rs) f

  -- each operation before this index has a complexity
  abbrev pub EarlierHave : ℕ → Type 0
  EarlierHave at = (j : ℕ) (d : Definition C) → j < at → slice_get document j ≡ Some d → is_operation d ≡ true
      → (x : Complexity) × DefinitionHas document d x

  -- The first operation that can't be expanded is the definition at this index, and its first spread that can't be has
  -- this fault.
  pub record FirstFault (at : ℕ) (f : SpreadFault) : Type 0 where
    pub operation : Definition C
    pub stands : slice_get document at ≡ Some operation
    pub is_one : is_operation operation ≡ true
    pub before : EarlierHave at
    pub fault : CannotExpand (at ∷ []) (spreads_of_definition operation) f

  -- These definitions, the first of which has this index, have operations of these complexities, in their order.
  pub data OperationsHave : ℕ → List (Definition C) → List OperationComplexity → Type 0 where
    no_definition : {i : ℕ} → OperationsHave i [] []
    fragment_first : {i : ℕ} {d : Definition C} {ds : List (Definition C)} {cs : List OperationComplexity}
        → is_operation d ≡ false → OperationsHave (suc i) ds cs → OperationsHave i (d ∷ ds) cs
    operation_first : {i : ℕ} {d : Definition C} {ds : List (Definition C)} {cs : List OperationComplexity}
        (x : Complexity) → is_operation d ≡ true → DefinitionHas document d x → OperationsHave (suc i) ds cs
        → OperationsHave i (d ∷ ds) (record { definition = i; complexity = capped_complexity x } ∷ cs)

-- a failure of the code, as the definitions see it, unless memory ran out
abbrev pub view_failure : ComplexityFailure → Option SpreadFault
view_failure (failure.Cycle span) = Some (OfCycle (view_span span))
view_failure (failure.Unknown span) = Some (OfUnknown (view_span span))
view_failure failure.Memory = None

-- If there is a failure, and memory didn't run out, it is the fault of the first operation that can't be expanded.
abbrev pub FailsWithFirstFault : {C X : Type 0} → List (Definition C) → Result X ComplexityFailure → Type 0
FailsWithFirstFault document (Ok x) = Unit {0}
FailsWithFirstFault document (Err f) =
    (fault : SpreadFault) → view_failure f ≡ Some fault → (at : ℕ) × FirstFault document at fault
