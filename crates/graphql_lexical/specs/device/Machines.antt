-- A device: machines that go over characters, one step at each.
use Rattle.std.specs.Prelude.{ℕ, suc, List, [], ◌∷◌, Option, Some, None}

-- a step at this character, and how far the steps go after it
abbrev pub onward : {S : Type 0} → S → (S → ℕ × S) → Option S → ℕ × S
onward q go None = (0, q)
onward q go (Some p) = let r = go p in (suc r.0, r.1)

-- How far the steps go from a state, and the state there.
abbrev pub reach : {S : Type 0} → (S → ℕ → Option S) → S → List ℕ → ℕ × S
reach step q [] = (0, q)
reach step q (c ∷ cs) = onward q (λ p. reach step p cs) (step q c)
