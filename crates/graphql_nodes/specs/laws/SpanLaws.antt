-- Where nodes stand in a source.
use Rattle.std.specs.Prelude.{◌≡◌, ℕ, ◌≤◌, List, length}
use Rattle.std.specs.List.{AllByRecursion}
use Rattle.graphql_lexical.specs.Place.{Place, Span, place}
use Rattle.graphql_nodes.specs.Nodes.{Node}

-- a place of the source, with the line and the column that it has there
pub record IsPlaceOf (source : List ℕ) (p : Place) : Type 0 where
  pub within : p.index ≤ length source
  pub is : p ≡ place source p.index

-- from a place of the source to a place of it
pub record LiesIn (source : List ℕ) (span : Span) : Type 0 where
  pub start : IsPlaceOf source span.start
  pub end : IsPlaceOf source span.end

-- each of these nodes lies in the source
abbrev pub NodesLieIn : {C : Type 0} → List ℕ → List (Node C) → Type 0
NodesLieIn source = AllByRecursion (λ node. LiesIn source node.span)
