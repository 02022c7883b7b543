-- Indexes by names, in a map.
use Rattle.std.specs.Prelude.{◌≡◌, ℕ, List, Option}
use Rattle.std.specs.Borrow.{Bor}
use Rattle.std.specs.BTreeMap.{BTreeMap, get_by}
use Rattle.std.specs.Cmp.Lexicographic.{slice_cmp}
use Rattle.std.specs.Ordering.{nat_cmp}
use Rattle.std.specs.Str.{IsUtf8, chars}
use Rattle.graphql_lexical.specs.Characters.{Text}

-- The map has at each name what this function gives.
pub record Knows (names : BTreeMap (Bor (List ℕ)) ℕ) (place : Text → Option ℕ) : Type 0 where
  pub knows : (q : List ℕ) → IsUtf8 q → get_by (λ k. slice_cmp nat_cmp q k.now) names ≡ place (chars q)
