-- Numbers of 32 bits, which those of a source of less than 4 GiB all are.
use Rattle.std.specs.Prelude.{ℕ, ◌+◌, ◌^◌, ◌<◌, List, [], ◌∷◌}
use Rattle.graphql_lexical.specs.Place as places
use Rattle.graphql_nodes.specs.Nodes.{Node}
use Rattle.juniper_values.specs.Scalar.{Content}
use Rattle.juniper_nodes.specs.NodeTexts.{text_of_node}
use Rattle.firthnapkin_results.specs.Nodes.{byte_count}

abbrev pub PositionFits : places.Place → Type 0
PositionFits p = (p.index < 2 ^ 32) × (p.line < 2 ^ 32) × (p.column < 2 ^ 32)

abbrev pub SpanFits : places.Span → Type 0
SpanFits span = PositionFits span.start × PositionFits span.end

-- the numbers of a node whose text begins at this byte of the texts
pub record NodeFits (at : ℕ) (node : Node Content) : Type 0 where
  pub span : SpanFits node.span
  pub descendants : node.descendants < 2 ^ 32
  pub texts : at + byte_count (text_of_node node) < 2 ^ 32

-- those of nodes whose texts begin there
abbrev pub NodesFit : ℕ → List (Node Content) → Type 0
NodesFit at [] = Unit {0}
NodesFit at (node ∷ others) = NodeFits at node × NodesFit (at + byte_count (text_of_node node)) others
