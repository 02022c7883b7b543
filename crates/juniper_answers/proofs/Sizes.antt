-- The sizes of values.
use denote.Param.Weighed.{most}
use Rattle.std.proofs.Common.{ℕ, ◌≤◌, ◌<◌, List, [], ◌∷◌, arith, rules}
use Rattle.std.specs.List.{zip}
use Rattle.std.specs.Map.{values_of}
use Rattle.juniper_answers.specs.View.{pairs}
use Rattle.juniper_answers.specs.declared.value.Object.{Object, size-Object, the_lemmas}
use Rattle.juniper_answers.specs.declared.value.Value.{size-Value, the_lemmas as value_lemmas}

-- what is shown weighs no more than what is there
pub most_shown : {K X : Type 0} (μ : X → ℕ) (ks : List K) (vs : List X) → most μ (values_of (zip ks vs)) ≤ most μ vs
most_shown μ [] vs = omega arith
most_shown μ (k ∷ ks) [] = omega arith
most_shown μ (k ∷ ks) (v ∷ vs) = let h = most_shown μ ks vs in omega arith

held : (S : Type 0) (o : Object S) → most (size-Value S) o.entries.values.items < size-Object S o
held S o = search (rules, the_lemmas, value_lemmas)

-- each value of an object is smaller than the object
pub below_object : (S : Type 0) (o : Object S) → most (size-Value S) (values_of (pairs o)) < size-Object S o
below_object S o = omega (arith, most_shown (size-Value S) o.entries.keys.keys o.entries.values.items, held S o)
