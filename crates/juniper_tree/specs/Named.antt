-- The arguments that a name stands for.
use Rattle.std.specs.Prelude.{ℕ, Bool, List, [], ◌∷◌, Option, Some, None, bytes_eq, if◌then◌else◌}
use Rattle.std.specs.Borrow.{Bor}
use Rattle.juniper_tokens.specs.declared.span.Spanning.{Spanning}

abbrev pub Named : Type 0 → Type 0
Named X = Spanning (Bor (List ℕ)) × X

abbrev pub is_named : {X : Type 0} → List ℕ → Named X → Bool
is_named name a = bytes_eq a.0.item.now name

-- what the first item of this name has, if there is one
abbrev pub first_named : {X : Type 0} → List ℕ → List (Named X) → Option X
first_named name [] = None
first_named name (a ∷ rest) = if is_named name a then Some a.1 else first_named name rest
