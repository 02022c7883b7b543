-- What is written into the caller's buffers while a source is parsed.
use Rattle.std.specs.Prelude.{◌≡◌, ◌+◌, ◌^◌, ◌<◌, ℕ, suc, List, [], ◌∷◌, ◌++◌, length, set, Option, None}
use Rattle.std.specs.Prelude.{Result, Ok, Err, encode_utf8_all}
use Rattle.graphql_lexical.specs.Place.{Span}
use Rattle.graphql_grammar.specs.Tokens.{Located, Word}
use Rattle.graphql_grammar.specs.Tree.{Value}
use Rattle.graphql_nodes.specs.Nodes.{Node, Label, Named, over, if_present, alias_nodes, type_nodes, value_nodes}
use Rattle.graphql_nodes.specs.declared.kind.NodeKind.{NodeKind}
use Rattle.graphql_nodes.specs.declared.kind.NodeKind.TheVariants as kind
use Rattle.juniper_parser.specs.Building.{FailsReading, Opened, a_list, an_object, an_object_field, some_arguments}
use Rattle.juniper_parser.specs.Building.{an_argument, a_directive, a_field, a_spread}
use Rattle.juniper_parser.specs.Building.{an_inline_fragment, some_variables}
use Rattle.juniper_parser.specs.Building.{a_variable, an_operation, a_fragment}
use Rattle.std.specs.Option.{unwrap_or}
use Rattle.juniper_values.specs.Text.{Text}
use Rattle.juniper_values.specs.Scalar.{Content, Reading}
use Rattle.juniper_values.specs.declared.scalar.ReadFailure.{ReadFailure}
use Rattle.juniper_nodes.specs.Literal.{str_in}
use Rattle.juniper_nodes.specs.NodeTexts.{node_texts, text_of_label}
use Rattle.firthnapkin_results.specs.ByteTables.{IsTableOf}
use Rattle.firthnapkin_results.specs.Fits.{NodesFit}
use Rattle.firthnapkin_results.specs.Nodes.{byte_count, node_value, written_nodes}
use Rattle.firthnapkin_results.specs.Scalars.{content_of}
use Rattle.firthnapkin_results.specs.declared.builder.NodeBuilder.{NodeBuilder}
use Rattle.firthnapkin_results.specs.declared.form.ScalarForm.{ScalarForm}

-- a buffer with these written into it from an index on, as far as they fit
abbrev pub with_written : {A : Type 0} → List A → ℕ → List A → List A
with_written buffer at [] = buffer
with_written buffer at (x ∷ xs) = with_written (set buffer at x) (suc at) xs

-- A builder has the same buffers and the same table.
pub record KeepsBuffers (old new : NodeBuilder) : Type 0 where
  pub table : new.table ≡ old.table
  pub nodes : new.nodes.ghost_name ≡ old.nodes.ghost_name
  pub texts : new.texts.ghost_name ≡ old.texts.ghost_name

-- ---- texts

-- This was appended to the texts, and no node was written.
pub record AddsText (old new : NodeBuilder) (bytes : List ℕ) : Type 0 where
  pub keeps : KeepsBuffers old new
  pub nodes : new.nodes.now ≡ old.nodes.now
  pub nodes_count : new.nodes_length ≡ old.nodes_length
  pub texts : old.texts_length + length bytes < 2 ^ 32
      → new.texts.now ≡ with_written old.texts.now old.texts_length bytes
  pub texts_count : old.texts_length + length bytes < 2 ^ 32 → new.texts_length ≡ old.texts_length + length bytes

-- By the reading of a token what its scalar means was appended, which is of this form; or it wasn't read.
abbrev pub AddsRead : Reading → NodeBuilder → NodeBuilder → Result ScalarForm ReadFailure → Type 0
AddsRead reading old new (Ok form) = (t : Text) × (reading ≡ Ok (content_of t form))
    × AddsText old new (encode_utf8_all (unwrap_or (str_in (content_of t form)) []))
AddsRead reading old new (Err failure) = FailsReading reading failure

-- ---- nodes

-- the numbers of these nodes, which come after those before
abbrev pub Fit : NodeBuilder → List (Node Content) → Type 0
Fit it ns = (it.nodes_length + length ns < 2 ^ 32) × NodesFit it.texts_length ns

-- These nodes of the source and their texts were written after those before, as far as the buffers reach, and counted.
pub record Written (source : List ℕ) (old new : NodeBuilder) (ns : List (Node Content)) : Type 0 where
  pub nodes : new.nodes.now ≡ with_written old.nodes.now old.nodes_length (written_nodes source old.texts_length ns)
  pub nodes_count : new.nodes_length ≡ old.nodes_length + length ns
  pub texts : new.texts.now ≡ with_written old.texts.now old.texts_length (encode_utf8_all (node_texts ns))
  pub texts_count : new.texts_length ≡ old.texts_length + byte_count (node_texts ns)

-- From one state to another a builder wrote these nodes, where their numbers fit.
pub record Adds (old new : NodeBuilder) (ns : List (Node Content)) : Type 0 where
  pub keeps : KeepsBuffers old new
  pub written : (source : List ℕ) → IsTableOf source old.table.now → Fit old ns → Written source old new ns

-- one node more is counted, which isn't written yet
abbrev pub counted : NodeBuilder → NodeBuilder
counted it = record it { nodes_length = it.nodes_length + 1 }

-- the nodes that are written when a part is opened: a field's alias, and the type of a variable
abbrev pub first_nodes : Opened → List (Node Content)
first_nodes a_list = []
first_nodes an_object = []
first_nodes (an_object_field key) = []
first_nodes some_arguments = []
first_nodes (an_argument name) = []
first_nodes (a_directive name) = []
first_nodes (a_field alias name) = if_present alias_nodes alias
first_nodes (a_spread name) = []
first_nodes (an_inline_fragment condition) = []
first_nodes some_variables = []
first_nodes (a_variable name type) = type_nodes type
first_nodes (an_operation type name) = []
first_nodes (a_fragment name condition) = []

-- A part is opened: its node was counted, which comes at this index, and its first nodes were written.
pub record Opens (old new : NodeBuilder) (index : ℕ) (what : Opened) : Type 0 where
  pub index_is : index ≡ old.nodes_length
  pub adds : Adds (counted old) new (first_nodes what)

-- the nodes of an object's field
abbrev pub field_nodes : Word × Located (Value Content) → List (Node Content)
field_nodes field = over kind.ObjectField field.0.span (Named field.0) (value_nodes field.1)

-- A node without a scalar that has this label has no text, and so the same value wherever its text would begin.
abbrev pub HasNoText : Label → Type 0
HasNoText label = (text_of_label label None ≡ [])
    × ((source : List ℕ) (at : ℕ) → node_value source at None label ≡ node_value source 0 None label)

-- Nothing but a node's place in the buffer changed.
pub record PutsNode (old new : NodeBuilder) : Type 0 where
  pub keeps : KeepsBuffers old new
  pub nodes_count : new.nodes_length ≡ old.nodes_length
  pub texts : new.texts.now ≡ old.texts.now
  pub texts_count : new.texts_length ≡ old.texts_length

-- A part that was opened is closed: if its label has no text, its node is written before its first nodes and those of
-- its parts.
abbrev pub Closes : NodeBuilder → NodeBuilder → ℕ → NodeKind → Span → Label → Type 0
Closes old new index kind span label = (first opened : NodeBuilder) (what : Opened) (inner : List (Node Content))
    → HasNoText label → Opens first opened index what → Adds opened old inner
    → Adds first new (over kind span label (first_nodes what ++ inner))

-- a node without descendants
abbrev pub leaf : NodeKind → Span → Label → Option Content → Node Content
leaf kind span label content = record { kind = kind; span = span; label = label; content = content; descendants = 0 }
