-- How much the walk has left.
use Rattle.std.proofs.Common.{◌≡◌, ◌<◌, ◌+◌, ◌-◌, ℕ, zero, suc, List, [], ◌∷◌, length, set, Some, arith}
use Rattle.std.specs.List.{slice_get}
use Rattle.std.proofs.lemmas.Option.{slice_get_within}
use Rattle.juniper_outlines.specs.Sums.{plus_capped, at_level_capped}
use Rattle.juniper_outlines.specs.Outlines.{Outline}
use Rattle.juniper_outlines.specs.device.Walk.{IsStep, step_done, step_spread, step_enter}
use Rattle.juniper_outlines.specs.declared.complexity.Complexity.{Complexity}
use Rattle.juniper_outlines.specs.declared.walk.State.{State}
use Rattle.juniper_outlines.specs.declared.walk.State.TheVariants as state
use Rattle.juniper_outlines.specs.declared.walk.Step.TheVariants as step

abbrev pub left_at : Outline → State → ℕ
left_at o state.Unvisited = 2 + length o.spreads
left_at o (state.Open n a) = 1 + (length o.spreads - n)
left_at o (state.Done c) = 0

abbrev pub left : List Outline → List State → ℕ
left [] ss = 0
left (o ∷ os) [] = 0
left (o ∷ os) (s ∷ ss) = left_at o s + left os ss

left_set : (os : List Outline) (ss : List State) (i : ℕ) (o : Outline) (x y : State) → slice_get os i ≡ Some o
    → slice_get ss i ≡ Some x
    → left_at o y < left_at o x → left os (set ss i y) < left os ss
left_set [] ss i o x y e f h = absurd cc
left_set (p ∷ os) [] i o x y e f h = absurd cc
left_set (p ∷ os) (z ∷ ss) zero o x y e f h =
    let same : p ≡ o = cc in
    let same_state : z ≡ x = cc in
    rw (same, same_state) (omega arith)
left_set (p ∷ os) (z ∷ ss) (suc i) o x y e f h =
    let less = left_set os ss i o x y e f h in omega arith

pub less_done : (g : List Outline) (old new : List State) (at : ℕ) (a : Complexity)
    → IsStep g old new at (step.Done a) → left g new < left g old
less_done g old new at a (step_done n b o eo ea le e) =
    rw e (left_set g old at o (state.Open n b) (state.Done b) eo ea (omega arith))

pub less_on : (g : List Outline) (old new : List State) (at : ℕ) → IsStep g old new at step.NextSpread
    → left g new < left g old
less_on g old new at (step_spread n t a b o s next et done_t e) =
    let within = slice_get_within o.spreads n s next.spread in
    rw e (left_set g old at o (state.Open n a) (state.Open (n + 1) (plus_capped a (at_level_capped s.fields_around b)))
    next.outline next.open_at (omega arith))

pub less_into : (g : List Outline) (old new : List State) (at t : ℕ) → IsStep g old new at (step.Enter t)
    → left g new < left g old
less_into g old new at t (step_enter n u a o p s next et unvisited ep e) =
    rw e (left_set g old u p state.Unvisited (state.Open 0 p.own) ep unvisited (omega arith))
