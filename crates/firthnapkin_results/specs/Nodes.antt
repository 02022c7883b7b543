-- Nodes of a document, as C gets them.
use Rattle.std.specs.Prelude.{ℕ, ◌+◌, ◌-◌, ℤ, pos, unsigned_abs, Bool, if◌then◌else◌, List, [], ◌∷◌, length, Option, Some, None, encode_utf8_all}
use Rattle.graphql_lexical.specs.Place.{Span}
use Rattle.graphql_grammar.specs.Tokens.{Text, Word}
use Rattle.graphql_nodes.specs.Nodes as nodes
use Rattle.graphql_nodes.specs.Nodes.{Label, Unnamed, Named, OnType, Typed}
use Rattle.graphql_nodes.specs.Types.{type_text}
use Rattle.graphql_nodes.specs.declared.kind.NodeKind.{NodeKind}
use Rattle.graphql_nodes.specs.declared.kind.NodeKind.TheVariants as kind
use Rattle.juniper_values.specs.Default.{bool_in}
use Rattle.juniper_values.specs.Scalar.{Content, integer, text, boolean, custom}
use Rattle.juniper_nodes.specs.Literal.{int_in, str_in}
use Rattle.juniper_nodes.specs.NodeTexts.{text_of_node}
use Rattle.firthnapkin_results.specs.Positions.{bytes_before, written_position}
use Rattle.firthnapkin_results.specs.declared.node.Node.{Node}
use Rattle.firthnapkin_results.specs.declared.node.Extent.{Extent}
use Rattle.firthnapkin_results.specs.declared.node.Value.{Value}

-- ---- kinds

-- The number of a kind. No node has that of a scalar, which is after all others: a literal's number is its content's.
abbrev pub kind_number : NodeKind → ℕ
kind_number kind.Query = 0
kind_number kind.Mutation = 1
kind_number kind.Subscription = 2
kind_number kind.FragmentDefinition = 3
kind_number kind.VariableDefinitions = 4
kind_number kind.VariableDefinition = 5
kind_number kind.Type = 6
kind_number kind.Field = 7
kind_number kind.Alias = 8
kind_number kind.FragmentSpread = 9
kind_number kind.InlineFragment = 10
kind_number kind.Directive = 11
kind_number kind.Arguments = 12
kind_number kind.Argument = 13
kind_number kind.Null = 14
kind_number kind.Enum = 15
kind_number kind.Variable = 16
kind_number kind.List = 17
kind_number kind.Object = 18
kind_number kind.ObjectField = 19
kind_number kind.Scalar = 26

-- A large Int's content begins with 1, a Float's with 2, a block string's with 4.
abbrev pub custom_number : List ℤ → ℕ
custom_number [] = kind_number kind.Scalar
custom_number (n ∷ ns) = 20 + unsigned_abs n

abbrev pub content_number : Content → ℕ
content_number (integer n) = 20
content_number (text t) = 23
content_number (boolean b) = 25
content_number (custom ns) = custom_number ns

-- a scalar's number says what stands
abbrev pub node_number : NodeKind → Option Content → ℕ
node_number kind None = kind_number kind
node_number kind (Some content) = content_number content

-- ---- names

abbrev pub byte_count : Text → ℕ
byte_count t = length (encode_utf8_all t)

-- A name ends where its word does, and is as many bytes long as its text: the word of a variable begins with `$`.
abbrev pub word_extent : List ℕ → Word → Extent
word_extent source word =
    record {
      start = bytes_before source word.span.end.index - byte_count word.item;
      end = bytes_before source word.span.end.index;
    }

abbrev pub span_extent : List ℕ → Span → Extent
span_extent source span =
    record { start = bytes_before source span.start.index; end = bytes_before source span.end.index }

-- no bytes, where the part starts
abbrev pub no_extent : List ℕ → Span → Extent
no_extent source span =
    record { start = bytes_before source span.start.index; end = bytes_before source span.start.index }

-- a part without a name: all of a scalar and of null is what names it
abbrev pub unnamed_extent : NodeKind → List ℕ → Span → Extent
unnamed_extent kind.Query = no_extent
unnamed_extent kind.Mutation = no_extent
unnamed_extent kind.Subscription = no_extent
unnamed_extent kind.FragmentDefinition = no_extent
unnamed_extent kind.VariableDefinitions = no_extent
unnamed_extent kind.VariableDefinition = no_extent
unnamed_extent kind.Type = no_extent
unnamed_extent kind.Field = no_extent
unnamed_extent kind.Alias = no_extent
unnamed_extent kind.FragmentSpread = no_extent
unnamed_extent kind.InlineFragment = no_extent
unnamed_extent kind.Directive = no_extent
unnamed_extent kind.Arguments = no_extent
unnamed_extent kind.Argument = no_extent
unnamed_extent kind.Null = span_extent
unnamed_extent kind.Scalar = span_extent
unnamed_extent kind.Enum = no_extent
unnamed_extent kind.Variable = no_extent
unnamed_extent kind.List = no_extent
unnamed_extent kind.Object = no_extent
unnamed_extent kind.ObjectField = no_extent

abbrev pub node_extent : List ℕ → NodeKind → Span → Label → Extent
node_extent source kind span Unnamed = unnamed_extent kind source span
node_extent source kind span (Named word) = word_extent source word
node_extent source kind span (OnType name condition) = word_extent source name
node_extent source kind span (Typed type) = span_extent source span

-- ---- values

abbrev pub no_value : Value
no_value = record { number = pos 0; length = 0 }

-- a text that begins at this byte of the texts
abbrev pub text_value : ℕ → Text → Value
text_value at t = record { number = pos at; length = byte_count t }

-- an Int's number, a Boolean's 0 or 1, what a string means
abbrev pub content_value : ℕ → Option ℤ → Option Bool → Option Text → Value
content_value at (Some n) b t = record { number = n; length = 0 }
content_value at None (Some b) t = record { number = if b then pos 1 else pos 0; length = 0 }
content_value at None None (Some t) = text_value at t
content_value at None None None = no_value

-- where a fragment's type condition begins, and how many bytes it has
abbrev pub condition_value : Extent → Value
condition_value extent = record { number = pos extent.start; length = extent.end - extent.start }

-- what a scalar reports, where there is one
abbrev pub scalar_value : ℕ → Option Content → Value
scalar_value at None = no_value
scalar_value at (Some content) = content_value at (int_in content) (bool_in content) (str_in content)

abbrev pub node_value : List ℕ → ℕ → Option Content → Label → Value
node_value source at content (Typed type) = text_value at (type_text type)
node_value source at content (OnType name condition) = condition_value (word_extent source condition)
node_value source at content Unnamed = scalar_value at content
node_value source at content (Named word) = scalar_value at content

-- ---- nodes

-- a node whose text begins at this byte of the texts
abbrev pub written_node : List ℕ → ℕ → nodes.Node Content → Node
written_node source at node = record {
  kind = node_number node.kind node.content;
  descendants = node.descendants;
  start = written_position source node.span.start;
  end = written_position source node.span.end;
  name_start = (node_extent source node.kind node.span node.label).start;
  name_end = (node_extent source node.kind node.span node.label).end;
  value = (node_value source at node.content node.label).number;
  value_length = (node_value source at node.content node.label).length;
}

-- nodes whose texts begin at this byte of the texts
abbrev pub written_nodes : List ℕ → ℕ → List (nodes.Node Content) → List Node
written_nodes source at [] = []
written_nodes source at (node ∷ others) =
    written_node source at node ∷ written_nodes source (at + byte_count (text_of_node node)) others
