-- The texts that a document's nodes have beside their source.
use Rattle.std.specs.Prelude.{List, [], Option, option_and_then}
use Rattle.std.specs.Option.{unwrap_or}
use Rattle.std.specs.List.{flat_map}
use Rattle.graphql_nodes.specs.Nodes.{Node, Label, Typed}
use Rattle.graphql_nodes.specs.Types.{type_text}
use Rattle.juniper_values.specs.Text.{Text}
use Rattle.juniper_values.specs.Scalar.{Content}
use Rattle.juniper_nodes.specs.Literal.{str_in}

-- Of a type how it is written, of a String and of a block string what it means. What else a node has stands in the
-- source.
abbrev pub text_of_label : Label → Option Text → Text
text_of_label (Typed type) meaning = type_text type
text_of_label label meaning = unwrap_or meaning []

abbrev pub text_of_node : Node Content → Text
text_of_node node = text_of_label node.label (option_and_then str_in node.content)

-- one after another
abbrev pub node_texts : List (Node Content) → Text
node_texts nodes = flat_map text_of_node nodes
