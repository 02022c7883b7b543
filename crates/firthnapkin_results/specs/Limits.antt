-- The limits of a call.
use Rattle.std.specs.Prelude.{◌≡◌, ◌≢◌, ◌<◌, ◌≤◌, ◌⊎◌, ℕ, List, [], ◌∷◌}
use Rattle.firthnapkin_results.specs.declared.limits.Limits.{Limits}

-- the six reserved words, each 0
abbrev pub unset : List ℕ
unset = 0 ∷ 0 ∷ 0 ∷ 0 ∷ 0 ∷ 0 ∷ []

abbrev pub AreValid : Limits → Type 0
AreValid limits = (limits.depth ≤ 1000) × (limits.reserved ≡ unset)

abbrev pub AreInvalid : Limits → Type 0
AreInvalid limits = (1000 < limits.depth) ⊎ (limits.reserved ≢ unset)
