-- The nodes of a document that were written into the caller's buffers.
use Rattle.std.specs.Borrow.{Bor}
use Rattle.std.proofs.Common.{◌≡◌, ◌∙◌, ℕ, ◌+◌, ◌<◌, ◌^◌, List, length, sym, ap, ap₂, subst, arith}
use Rattle.std.specs.Prelude.{encode_utf8_all}
use Rattle.std.specs.Str.{chars}
use Rattle.graphql_lexical.specs.Cutting.{Lexeme}
use Rattle.graphql_grammar.specs.Tree.{Definition}
use Rattle.juniper_values.specs.Scalar.{Content}
use Rattle.graphql_nodes.specs.Nodes as nodes
use Rattle.graphql_nodes.specs.Nodes.{document_nodes}
use Rattle.graphql_nodes.proofs.Public as facts
use Rattle.graphql_nodes.proofs.Public.{definitions_have_nodes}
use Rattle.juniper_nodes.specs.NodeTexts.{node_texts}
use Rattle.firthnapkin_results.specs.Answers.{AreWritten, Fills, HasNodes, nodes_in, scalars, texts_in}
use Rattle.firthnapkin_results.specs.Builders.{Adds, Fit, with_written}
use Rattle.firthnapkin_results.specs.Buildings.{AreOutlined, BuildsNodes}
use Rattle.firthnapkin_results.specs.ByteTables.{IsTableOf}
use Rattle.firthnapkin_results.specs.Fits.{NodesFit}
use Rattle.firthnapkin_results.specs.Nodes.{written_nodes}
use Rattle.firthnapkin_results.specs.declared.builder.NodeBuilder.{NodeBuilder}
use Rattle.firthnapkin_results.specs.declared.byte_table.ByteTable.{ByteTable}
use Rattle.firthnapkin_results.specs.declared.flat.Lengths.{Lengths}
use Rattle.firthnapkin_results.specs.declared.limits.Limits.{Limits}
use Rattle.firthnapkin_results.specs.declared.node.Node.{Node}
use Rattle.firthnapkin_results.proofs.Bounds.{within_read, written-length}
use Rattle.firthnapkin_results.proofs.Fitting.{nodes_fit}
use Rattle.firthnapkin_results.proofs.Sources.{AreDefinitions, IsRead, document_read}
use Rattle.firthnapkin_results.proofs.Writing.{fills_all}

-- the nodes of what a source is read as fit where a builder begins, and its table is that of the source
pub first_fit : {A : Type 0} (R : A → List Lexeme → Type 0) (nodes_of_it : A → List (nodes.Node Content))
    → facts.HasNodes scalars R nodes_of_it → (text : List ℕ) → length text < 2 ^ 32 → (first : NodeBuilder)
    → first.nodes_length ≡ 0 → first.texts_length ≡ 0 → {table : Bor ByteTable} → first.table ≡ table
    → IsTableOf (chars text) table.now → (x : A) → IsRead R text x
    → IsTableOf (chars text) first.table.now × Fit first (nodes_of_it x)
first_fit R nodes_of_it has text short first nodes texts same table x read =
    let source = chars text in
    let ns = nodes_of_it x in
    let within = within_read R nodes_of_it has text x read in
    let count : first.nodes_length + length ns < 2 ^ 32 =
    omega (arith, nodes, within.0, written-length source 0 ns, short) in
    let fits = subst (λ (k : ℕ). NodesFit k ns) (sym texts) (nodes_fit R nodes_of_it has text x short read) in
    (subst (λ t. IsTableOf source t.now) (sym same) table, (count, fits))

pub are_written : (text : List ℕ) (first last : NodeBuilder) (old_nodes : List Node) (old_texts : List ℕ)
    → (first.nodes.now ≡ old_nodes) × (first.nodes_length ≡ 0) → (first.texts.now ≡ old_texts)
    × (first.texts_length ≡ 0)
    → (ns : List (nodes.Node Content)) → IsTableOf (chars text) first.table.now × Fit first ns → Adds first last ns
    → AreWritten text ns old_nodes last.nodes.now old_texts last.texts.now
    (record { nodes = last.nodes_length; texts = last.texts_length })
are_written text first last old_nodes old_texts nodes texts ns fit adds =
    let source = chars text in
    let w = adds.written source fit.0 fit.1 in
    record {
      nodes = subst (Fills (nodes_in text ns) old_nodes)
          (sym (w.nodes
          ∙ (ap₂ (λ (b : List Node) (k : ℕ). with_written b k (written_nodes source first.texts_length ns)) nodes.0
          nodes.1
          ∙ ap (λ (k : ℕ). with_written old_nodes 0 (written_nodes source k ns)) texts.1)))
          (fills_all (nodes_in text ns) old_nodes);
      texts = subst (Fills (texts_in ns) old_texts)
          (sym (w.texts
          ∙ ap₂ (λ (b : List ℕ) (k : ℕ). with_written b k (encode_utf8_all (node_texts ns))) texts.0 texts.1))
          (fills_all (texts_in ns) old_texts);
      nodes_count = omega (arith, w.nodes_count, nodes.1, written-length source 0 ns);
      texts_count = omega (arith, w.texts_count, texts.1);
    }

-- the same of what is known to be equal
pub written_as : (text : List ℕ) (ns : List (nodes.Node Content)) (old_nodes : List Node) (old_texts : List ℕ)
    {new_nodes last_nodes : List Node} {new_texts last_texts : List ℕ} {lengths last_lengths : Lengths}
    → new_nodes ≡ last_nodes → new_texts ≡ last_texts → lengths ≡ last_lengths
    → AreWritten text ns old_nodes last_nodes old_texts last_texts last_lengths
    → AreWritten text ns old_nodes new_nodes old_texts new_texts lengths
written_as text ns old_nodes old_texts nodes texts same w = record {
  nodes = subst (Fills (nodes_in text ns) old_nodes) (sym nodes) w.nodes;
  texts = subst (Fills (texts_in ns) old_texts) (sym texts) w.texts;
  nodes_count = ap (λ l. l.nodes) same ∙ w.nodes_count;
  texts_count = ap (λ l. l.texts) same ∙ w.texts_count;
}

-- what a builder that began with nothing has written in the end
pub nodes_written : {D : Type 0} (outlines : D → ℕ → Definition Content → Type 0) (text : List ℕ) (limits : Limits)
    → length text < 2 ^ 32 → (first last : NodeBuilder) (old_nodes : List Node) (old_texts : List ℕ) (gathered : List D)
    → (first.nodes.now ≡ old_nodes) × (first.nodes_length ≡ 0) → (first.texts.now ≡ old_texts)
    × (first.texts_length ≡ 0)
    → {table : Bor ByteTable} → first.table ≡ table → IsTableOf (chars text) table.now
    → (built : BuildsNodes outlines text limits first last gathered)
    → HasNodes text limits built.tree old_nodes last.nodes.now old_texts last.texts.now
    (record { nodes = last.nodes_length; texts = last.texts_length })
    × AreOutlined outlines 0 gathered built.tree
nodes_written outlines text limits short first last old_nodes old_texts gathered nodes texts same table built =
    let fit = first_fit AreDefinitions document_nodes (definitions_have_nodes scalars) text short first nodes.1 texts.1
    same
    table built.tree (document_read text limits built.tree built.document) in (
      record {
        document = built.document;
        written = are_written text first last old_nodes old_texts nodes texts (document_nodes built.tree) fit
            built.adds;
      },
      subst (λ (k : ℕ). AreOutlined outlines k gathered built.tree) nodes.1 (built.outlined fit.0 fit.1),
    )
