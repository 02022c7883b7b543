-- Outlines of definitions, and the complexities that they have with every spread expanded. A spread leads to the
-- outline of a fragment, or to none.
use Rattle.std.specs.Prelude.{◌≡◌, ◌⊎◌, ◌<◌, ℕ, suc, Bool, true, false, List, [], ◌∷◌, slice_get, Option, Some, None}
use Rattle.std.specs.Prelude.{Result, Ok, Err}
use Rattle.juniper_tokens.specs.declared.span.Span.{Span}
use Rattle.juniper_outlines.specs.Sums.{plus_capped, at_level_capped}
use Rattle.juniper_outlines.specs.declared.complexity.Complexity.{Complexity}
use Rattle.juniper_outlines.specs.declared.complexity.ComplexityFailure.{ComplexityFailure}
use Rattle.juniper_outlines.specs.declared.complexity.ComplexityFailure.TheVariants as failure
use Rattle.juniper_outlines.specs.declared.operations.OperationComplexity.{OperationComplexity}

-- A spread: the index of the fragment that it names, if there is one, the number of fields around it, and its span.
pub record Spread : Type 0 where
  pub target : Option ℕ
  pub fields_around : ℕ
  pub span : Span

-- A definition: whether it is an operation, its complexity with no spread expanded, and its spreads.
pub record Outline : Type 0 where
  pub is_operation : Bool
  pub own : Complexity
  pub spreads : List Spread

-- x is one of them
abbrev pub IsAmong : ℕ → List ℕ → Type 0
IsAmong x [] = ⊥
IsAmong x (y ∷ ys) = (x ≡ y) ⊎ IsAmong x ys

module _ (g : List Outline) where
  mutual
    -- The definition of the outline at this index has this complexity: its own, and those of its spreads.
    pub data OutlineHas : ℕ → Complexity → Type 0 where
      outline_has : {i : ℕ} {c : Complexity} (o : Outline) → slice_get g i ≡ Some o → AddsUpTo o.own o.spreads c
          → OutlineHas i c

    -- A complexity, and that of the fragment of each of these spreads, are this together.
    pub data AddsUpTo : Complexity → List Spread → Complexity → Type 0 where
      no_spread : {a : Complexity} → AddsUpTo a [] a
      spread_first : {a c : Complexity} {s : Spread} {ss : List Spread} (t : ℕ) (b : Complexity)
          → s.target ≡ Some t → OutlineHas t b → AddsUpTo (plus_capped a (at_level_capped s.fields_around b)) ss c
          → AddsUpTo a (s ∷ ss) c

  -- These spreads are in a definition that is being expanded inside those of these indexes, itself among them. The
  -- first one that can't be expanded, each one before it expanded first, has this failure: it leads to none, or to one
  -- that is being expanded.
  pub data Breaks : List ℕ → List Spread → ComplexityFailure → Type 0 where
    names_none : {inside : List ℕ} {s : Spread} {ss : List Spread} → s.target ≡ None
        → Breaks inside (s ∷ ss) (failure.Unknown s.span)
    names_outer : {inside : List ℕ} {s : Spread} {ss : List Spread} (t : ℕ) → s.target ≡ Some t → IsAmong t inside
        → Breaks inside (s ∷ ss) (failure.Cycle s.span)
    breaks_within : {inside : List ℕ} {s : Spread} {ss : List Spread} {f : ComplexityFailure} (t : ℕ) (o : Outline)
        → s.target ≡ Some t → ¬ IsAmong t inside → slice_get g t ≡ Some o → Breaks (t ∷ inside) o.spreads f
        → Breaks inside (s ∷ ss) f
    breaks_after : {inside : List ℕ} {s : Spread} {ss : List Spread} {f : ComplexityFailure} (t : ℕ) (b : Complexity)
        → s.target ≡ Some t → OutlineHas t b → Breaks inside ss f → Breaks inside (s ∷ ss) f

  -- the definition of the outline at this index fails so
  abbrev pub BreaksAt : ℕ → ComplexityFailure → Type 0
  BreaksAt root f = (o : Outline) → slice_get g root ≡ Some o → Breaks (root ∷ []) o.spreads f

  -- These outlines, the first of which has this index, have operations of these complexities, in their order.
  pub data OutlinesHave : ℕ → List Outline → List OperationComplexity → Type 0 where
    no_outline : {i : ℕ} → OutlinesHave i [] []
    outline_of_fragment : {i : ℕ} {o : Outline} {os : List Outline} {cs : List OperationComplexity}
        → o.is_operation ≡ false → OutlinesHave (suc i) os cs → OutlinesHave i (o ∷ os) cs
    outline_of_operation : {i : ℕ} {o : Outline} {os : List Outline} {cs : List OperationComplexity} (c : Complexity)
        → o.is_operation ≡ true → OutlineHas i c → OutlinesHave (suc i) os cs
        → OutlinesHave i (o ∷ os) (record { definition = i; complexity = c } ∷ cs)

  -- each operation before this index has a complexity
  abbrev pub EarlierOutlinesHave : ℕ → Type 0
  EarlierOutlinesHave at = (j : ℕ) (o : Outline) → j < at → slice_get g j ≡ Some o → o.is_operation ≡ true
      → (c : Complexity) × OutlineHas j c

  -- The first operation that can't be expanded is the definition at this index, and its first spread that can't be has
  -- this failure.
  pub record FirstBreak (at : ℕ) (f : ComplexityFailure) : Type 0 where
    pub outline : Outline
    pub stands : slice_get g at ≡ Some outline
    pub is_one : outline.is_operation ≡ true
    pub before : EarlierOutlinesHave at
    pub breaks : Breaks (at ∷ []) outline.spreads f

  -- If there is a failure, and memory didn't run out, it is that of the first operation that can't be expanded.
  abbrev pub FailsWithFirstBreak : {X : Type 0} → Result X ComplexityFailure → Type 0
  FailsWithFirstBreak (Ok x) = Unit {0}
  FailsWithFirstBreak (Err failure.Memory) = Unit {0}
  FailsWithFirstBreak (Err (failure.Cycle span)) = (at : ℕ) × FirstBreak at (failure.Cycle span)
  FailsWithFirstBreak (Err (failure.Unknown span)) = (at : ℕ) × FirstBreak at (failure.Unknown span)
