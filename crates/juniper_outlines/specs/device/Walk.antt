-- A device: what the walk over outlines does.
use Rattle.std.specs.Prelude.{◌≡◌, ◌≤◌, ◌+◌, ℕ, List, [], ◌∷◌, length, set, slice_get, Some, None, Result, Ok, Err}
use Rattle.juniper_outlines.specs.Outlines.{Outline, Spread, OutlineHas, BreaksAt}
use Rattle.juniper_outlines.specs.Sums.{plus_capped, at_level_capped}
use Rattle.juniper_outlines.specs.declared.complexity.Complexity.{Complexity}
use Rattle.juniper_outlines.specs.declared.complexity.ComplexityFailure.{ComplexityFailure}
use Rattle.juniper_outlines.specs.declared.complexity.ComplexityFailure.TheVariants as failure
use Rattle.juniper_outlines.specs.declared.outline.DefinitionOutline.{DefinitionOutline}
use Rattle.juniper_outlines.specs.declared.outline.NamedSpread.{NamedSpread}
use Rattle.juniper_outlines.specs.declared.walk.State.{State}
use Rattle.juniper_outlines.specs.declared.walk.State.TheVariants as state
use Rattle.juniper_outlines.specs.declared.walk.Step.{Step}
use Rattle.juniper_outlines.specs.declared.walk.Step.TheVariants as step

module _ (g : List Outline) where
  -- If there is a failure, and memory didn't run out, it is that of this definition.
  abbrev pub IsBroken : ℕ → Result Complexity ComplexityFailure → Type 0
  IsBroken root (Ok c) = Unit {0}
  IsBroken root (Err failure.Memory) = Unit {0}
  IsBroken root (Err (failure.Cycle span)) = BreaksAt g root (failure.Cycle span)
  IsBroken root (Err (failure.Unknown span)) = BreaksAt g root (failure.Unknown span)

  -- no definition is open, and those that are done have the complexities that are kept
  pub record AreRight (ss : List State) : Type 0 where
    pub done : (i : ℕ) (c : Complexity) → slice_get ss i ≡ Some (state.Done c) → OutlineHas g i c
    pub none_open : (i n : ℕ) (a : Complexity) → slice_get ss i ≡ Some (state.Open n a) → ⊥

abbrev pub state_before : Complexity → List NamedSpread → State
state_before own [] = state.Done own
state_before own (s ∷ ss) = state.Unvisited

-- where the walk begins: a definition without spreads is done
abbrev pub first_state : DefinitionOutline → State
first_state o = state_before o.own o.spreads.items

-- the definition at this index is open
pub record IsOpen (ss : List State) (i : ℕ) : Type 0 where
  pub next : ℕ
  pub complexity : Complexity
  pub is : slice_get ss i ≡ Some (state.Open next complexity)

-- The definition at this index is open, and s is its next spread.
pub record IsNext (g : List Outline) (ss : List State) (at n : ℕ) (a : Complexity) (o : Outline)
    (s : Spread) : Type 0 where
  pub outline : slice_get g at ≡ Some o
  pub open_at : slice_get ss at ≡ Some (state.Open n a)
  pub spread : slice_get o.spreads n ≡ Some s

pub record HasNext (g : List Outline) (ss : List State) (at n : ℕ) (a : Complexity) (s : Spread) : Type 0 where
  pub of : Outline
  pub next : IsNext g ss at n a of s

-- The definition at this index is open, and its next spread names the definition at the other.
pub record LeadsTo (g : List Outline) (ss : List State) (at inner : ℕ) : Type 0 where
  pub next : ℕ
  pub complexity : Complexity
  pub of : Outline
  pub spread : Spread
  pub is_next : IsNext g ss at next complexity of spread
  pub named : spread.target ≡ Some inner

-- The definition at this index waits at a spread whose fragment is done, with this complexity.
pub record Waits (g : List Outline) (ss : List State) (at : ℕ) (c : Complexity) : Type 0 where
  pub target : ℕ
  pub leads : LeadsTo g ss at target
  pub is_done : slice_get ss target ≡ Some (state.Done c)

-- The root alone is open, and none of its spreads is counted yet.
pub record Begins (g : List Outline) (ss : List State) (root : ℕ) : Type 0 where
  pub old : List State
  pub was_right : AreRight g old
  pub of : Outline
  pub outline : slice_get g root ≡ Some of
  pub here : slice_get ss root ≡ Some (state.Open 0 of.own)
  pub others : (i : ℕ) → (i ≡ root → ⊥) → slice_get ss i ≡ slice_get old i

-- one step
pub data IsStep (g : List Outline) (old new : List State) (at : ℕ) : Step → Type 0 where
  step_done : (n : ℕ) (a : Complexity) (o : Outline) → slice_get g at ≡ Some o
      → slice_get old at ≡ Some (state.Open n a) → length o.spreads ≤ n → new ≡ set old at (state.Done a)
      → IsStep g old new at (step.Done a)
  step_spread : (n t : ℕ) (a b : Complexity) (o : Outline) (s : Spread) → IsNext g old at n a o s → s.target ≡ Some t
      → slice_get old t ≡ Some (state.Done b)
      → new ≡ set old at (state.Open (n + 1) (plus_capped a (at_level_capped s.fields_around b)))
      → IsStep g old new at step.NextSpread
  step_enter : (n t : ℕ) (a : Complexity) (o p : Outline) (s : Spread) → IsNext g old at n a o s → s.target ≡ Some t
      → slice_get old t ≡ Some state.Unvisited → slice_get g t ≡ Some p
      → new ≡ set old t (state.Open 0 p.own) → IsStep g old new at (step.Enter t)
  step_cycle : (n t m : ℕ) (a b : Complexity) (o : Outline) (s : Spread) → IsNext g old at n a o s → s.target ≡ Some t
      → slice_get old t ≡ Some (state.Open m b) → IsStep g old new at (step.Cycle s.span)
  step_unknown : (n : ℕ) (a : Complexity) (o : Outline) (s : Spread) → IsNext g old at n a o s → s.target ≡ None
      → IsStep g old new at (step.Unknown s.span)
