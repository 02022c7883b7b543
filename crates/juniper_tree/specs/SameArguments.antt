-- Equality of arguments regardless of their places.
use Rattle.std.specs.Prelude.{Bool, ◌&&◌, ◌==◌, List, length}
use Rattle.std.specs.List.{list_all, list_any}
use Rattle.graphql_grammar.specs.Tree.{Argument}
use Rattle.juniper_values.specs.Same.{same_but_place}
use Rattle.juniper_values.specs.Text.{same_text}

-- `eq` compares scalars.
module _ {C : Type 0} (eq : C → C → Bool) where
  -- the same name, and values that are equal regardless of their places
  abbrev pub same_argument : Argument C → Argument C → Bool
  same_argument a b = same_text a.name.item b.name.item && same_but_place eq a.value.item b.value.item

  -- each of the former is the same as one of the latter
  abbrev pub are_among : List (Argument C) → List (Argument C) → Bool
  are_among xs ys = list_all (λ x. list_any (same_argument x) ys) xs

  -- There are as many of them, and each of either is the same as one of the other.
  abbrev pub same_arguments : List (Argument C) → List (Argument C) → Bool
  same_arguments xs ys = length xs == length ys && (are_among xs ys && are_among ys xs)
