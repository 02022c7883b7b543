-- Nodes that are written while a source is parsed.
use Rattle.std.proofs.Common.{◌≡◌, ◌∙◌, ℕ, ◌+◌, ◌-◌, ◌<◌, ◌^◌, List, [], ◌∷◌, ◌++◌, length, set, refl, sym, ap, ap₂}
use Rattle.std.proofs.Common.{subst, arith, append-nil, length-append, Option, Some, None}
use Rattle.std.specs.Fmt.{WritesInCalls}
use Rattle.std.specs.List.{FoldsTo, concat}
use Rattle.std.specs.Prelude.{encode_utf8_all}
use Rattle.graphql_lexical.specs.Place as places
use Rattle.graphql_grammar.specs.Tokens.{Word, Located}
use Rattle.graphql_grammar.specs.Tree.{Value, Selection, items_of, fields_of, selections_of}
use Rattle.graphql_nodes.specs.Nodes.{Node, Label, Unnamed, Named, OnType, name_of, over, each, value_nodes}
use Rattle.graphql_nodes.specs.Nodes.{items_nodes, fields_nodes, selection_nodes, selections_nodes, optional_nodes}
use Rattle.graphql_nodes.specs.Nodes.{nodes_at}
use Rattle.graphql_nodes.specs.declared.kind.NodeKind.{NodeKind}
use Rattle.juniper_values.specs.Scalar.{Content}
use Rattle.juniper_nodes.specs.NodeTexts.{node_texts, text_of_node}
use Rattle.firthnapkin_results.specs.ByteTables.{IsTableOf}
use Rattle.firthnapkin_results.specs.Builders.{with_written, AddsText, KeepsBuffers, Adds, HasNoText, counted, field_nodes}
use Rattle.firthnapkin_results.specs.Builders.{PutsNode}
use Rattle.firthnapkin_results.specs.Fits.{NodeFits, NodesFit, SpanFits}
use Rattle.firthnapkin_results.specs.Positions.{written_position}
use Rattle.firthnapkin_results.specs.Nodes.{byte_count, kind_number, node_extent, written_node, written_nodes}
use Rattle.firthnapkin_results.specs.declared.builder.NodeBuilder.{NodeBuilder}
use Rattle.firthnapkin_results.specs.declared.node.Node.{Node as Stored}
use Rattle.firthnapkin_results.specs.declared.node.Value.{Value as Number}
use Rattle.firthnapkin_results.proofs.Bounds.{written-length}
use Rattle.firthnapkin_results.proofs.Written.{fits-append, written-append, texts-append}
use Rattle.firthnapkin_results.proofs.Writing.{written_append, put_before}

-- ---- the buffers

pub keeps_same : (it : NodeBuilder) → KeepsBuffers it it
keeps_same it = record { table = refl; nodes = refl; texts = refl }

pub keeps_further : (a b c : NodeBuilder) → KeepsBuffers a b → KeepsBuffers b c → KeepsBuffers a c
keeps_further a b c p q =
    record { table = q.table ∙ p.table; nodes = q.nodes ∙ p.nodes; texts = q.texts ∙ p.texts }

-- ---- nodes in a row

pub adds_none : (a b : NodeBuilder) → a ≡ b → Adds a b []
adds_none a b same = subst (λ (it : NodeBuilder). Adds a it []) same (record {
  keeps = keeps_same a;
  written = λ source table fit. record {
    nodes = refl;
    nodes_count = omega arith;
    texts = refl;
    texts_count = omega arith;
  };
})

pub adds_more : (a b c : NodeBuilder) (ns ms : List (Node Content)) → Adds a b ns → Adds b c ms → Adds a c (ns ++ ms)
adds_more a b c ns ms p q = record {
  keeps = keeps_further a b c p.keeps q.keeps;
  written = λ source table fit.
      let fits = fits-append a.texts_length ns ms fit.1 in
      let count = length-append ns ms in
      let few : a.nodes_length + length ns < 2 ^ 32 = omega (arith, fit.0, count) in
      let first = p.written source table (few, fits.0) in
      let there = subst (λ t. IsTableOf source t.now) (sym p.keeps.table) table in
      let next : a.texts_length + byte_count (node_texts ns) ≡ b.texts_length = sym first.texts_count in
      let more : b.nodes_length + length ms < 2 ^ 32 = omega (arith, fit.0, count, first.nodes_count) in
      let second = q.written source there (more, subst (λ (k : ℕ). NodesFit k ms) next fits.1) in
      record {
        nodes =
            second.nodes
            ∙ (ap₂ (λ (buffer : List Stored) (k : ℕ). with_written buffer k (written_nodes source b.texts_length ms))
            first.nodes (first.nodes_count ∙ ap (λ (k : ℕ). a.nodes_length + k)
            (sym (written-length source a.texts_length ns)))
            ∙ (sym (written_append a.nodes.now a.nodes_length (written_nodes source a.texts_length ns)
            (written_nodes source b.texts_length ms))
            ∙ ap (with_written a.nodes.now a.nodes_length)
            (ap (λ (k : ℕ). written_nodes source a.texts_length ns ++ written_nodes source k ms) (sym next)
            ∙ written-append source a.texts_length ns ms)));
        nodes_count = omega (arith, second.nodes_count, first.nodes_count, count);
        texts =
            second.texts
            ∙ (ap₂ (λ (buffer : List ℕ) (k : ℕ). with_written buffer k (encode_utf8_all (node_texts ms)))
            first.texts first.texts_count
            ∙ (sym (written_append a.texts.now a.texts_length (encode_utf8_all (node_texts ns))
            (encode_utf8_all (node_texts ms)))
            ∙ ap (with_written a.texts.now a.texts_length) (texts-append ns ms)));
        texts_count =
            let both = ap length (texts-append ns ms) in
            let joined = length-append (encode_utf8_all (node_texts ns)) (encode_utf8_all (node_texts ms)) in
            omega (arith, second.texts_count, first.texts_count, both, joined);
      };
}

-- ---- selections, items and fields

pub selections_each : (ss : List (Selection Content)) → selections_nodes (selections_of ss) ≡ each selection_nodes ss
unfolding each selection_nodes selections_nodes optional_nodes
selections_each [] = refl
selections_each (s ∷ ss) = ap (λ ns. selection_nodes s ++ ns) (selections_each ss)

pub items_each : (vs : List (Located (Value Content))) → items_nodes (items_of vs) ≡ each value_nodes vs
unfolding each nodes_at items_nodes fields_nodes
items_each [] = refl
items_each (v ∷ vs) = ap (λ ns. value_nodes v ++ ns) (items_each vs)

pub fields_each : (fs : List (Word × Located (Value Content))) → fields_nodes (fields_of fs) ≡ each field_nodes fs
unfolding each nodes_at items_nodes fields_nodes
fields_each [] = refl
fields_each (f ∷ fs) = ap (λ ns. field_nodes f ++ ns) (fields_each fs)

-- ---- a node and those of the parts in it

pub unnamed_text : HasNoText Unnamed
unnamed_text = (refl, λ source at. refl)

pub named_text : (word : Word) → HasNoText (Named word)
named_text word = (refl, λ source at. refl)

pub fragment_text : (name condition : Word) → HasNoText (OnType name condition)
fragment_text name condition = (refl, λ source at. refl)

pub optional_name_text : (name : Option Word) → HasNoText (name_of name)
optional_name_text None = unnamed_text
optional_name_text (Some word) = named_text word

module _ (kind : NodeKind) (span : places.Span) (label : Label) (none : HasNoText label) where
  -- a node with so many descendants
  abbrev pub node_over : ℕ → Node Content
  node_over count = record { kind = kind; span = span; label = label; content = None; descendants = count }

  anywhere : (source : List ℕ) (at count : ℕ)
      → written_node source 0 (node_over count) ≡ written_node source at (node_over count)
  anywhere source at count =
      ap (λ (v : Number). record {
        kind = kind_number kind;
        descendants = count;
        start = written_position source span.start;
        end = written_position source span.end;
        name_start = (node_extent source kind span label).start;
        name_end = (node_extent source kind span label).end;
        value = v.number;
        value_length = v.length;
      }) (sym (none.1 source at))

  no_bytes : (count : ℕ) → byte_count (text_of_node (node_over count)) ≡ 0
  no_bytes count = ap byte_count none.0

  pub closes : (first now new : NodeBuilder) (index : ℕ) (inner : List (Node Content)) → index ≡ first.nodes_length
      → Adds (counted first) now inner → PutsNode now new
      → ((source : List ℕ) → IsTableOf source now.table.now → SpanFits span → now.nodes_length < 2 ^ 32
      → index < now.nodes_length
      → new.nodes.now ≡ set now.nodes.now index (written_node source 0 (node_over (now.nodes_length - index - 1))))
      → Adds first new (over kind span label inner)
  closes first now new index inner at p q put = record {
    keeps = keeps_further first now new (record { table = p.keeps.table; nodes = p.keeps.nodes; texts = p.keeps.texts })
        q.keeps;
    written = λ source table fit.
        let n = first.nodes_length in
        let k = first.texts_length in
        let none_there : k + byte_count (text_of_node (node_over (length inner))) ≡ k = omega
        (arith, no_bytes (length inner)) in
        let few : n + 1 + length inner < 2 ^ 32 = omega (arith, fit.0) in
        let w = p.written source table (few, subst (λ (m : ℕ). NodesFit m inner) none_there fit.1.1) in
        let there = subst (λ t. IsTableOf source t.now) (sym p.keeps.table) table in
        let short : now.nodes_length < 2 ^ 32 = omega (arith, w.nodes_count, few) in
        let inside : index < now.nodes_length = omega (arith, w.nodes_count, at) in
        let count : now.nodes_length - index - 1 ≡ length inner = omega (arith, w.nodes_count, at) in
        let node = put source there fit.1.0.span short inside in
        let written = written_nodes source k inner in
        record {
          nodes =
              node
              ∙ (ap₂ (λ (b : List Stored) (i : ℕ). set b i
              (written_node source 0 (node_over (now.nodes_length - index - 1)))) w.nodes at
              ∙ (ap (λ (c : ℕ). set (with_written first.nodes.now (n + 1) written) n
              (written_node source 0 (node_over c))) count
              ∙ (ap (λ (x : Stored). set (with_written first.nodes.now (n + 1) written) n x)
              (anywhere source k (length inner))
              ∙ (put_before first.nodes.now n (n + 1) (written_node source k (node_over (length inner))) written
              (omega arith)
              ∙ (ap (λ (i : ℕ). with_written (set first.nodes.now n (written_node source k (node_over (length inner))))
              i written)
              (omega arith)
              ∙ ap (λ (m : ℕ). with_written first.nodes.now n
              (written_node source k (node_over (length inner)) ∷ written_nodes source m inner))
              (sym none_there))))));
          nodes_count = omega (arith, q.nodes_count, w.nodes_count);
          texts = q.texts ∙ (w.texts ∙ ap
              (λ (t : List ℕ). with_written first.texts.now k (encode_utf8_all (t ++ node_texts inner))) (sym none.0));
          texts_count = q.texts_count ∙ (w.texts_count
              ∙ ap (λ (t : List ℕ). k + byte_count (t ++ node_texts inner)) (sym none.0));
        };
  }

-- ---- texts

pub adds_no_text : (it : NodeBuilder) → AddsText it it []
adds_no_text it = record {
  keeps = keeps_same it;
  nodes = refl;
  nodes_count = refl;
  texts = λ fit. refl;
  texts_count = λ fit. omega arith;
}

adds_text_more : (a b c : NodeBuilder) (xs ys : List ℕ) → AddsText a b xs → AddsText b c ys → AddsText a c (xs ++ ys)
adds_text_more a b c xs ys p q = record {
  keeps = keeps_further a b c p.keeps q.keeps;
  nodes = q.nodes ∙ p.nodes;
  nodes_count = q.nodes_count ∙ p.nodes_count;
  texts = λ fit.
      let size = length-append xs ys in
      let few : a.texts_length + length xs < 2 ^ 32 = omega (arith, fit, size) in
      let count = p.texts_count few in
      let more : b.texts_length + length ys < 2 ^ 32 = omega (arith, fit, size, count) in
      q.texts more
      ∙ (ap₂ (λ (buffer : List ℕ) (k : ℕ). with_written buffer k ys) (p.texts few) count
      ∙ sym (written_append a.texts.now a.texts_length xs ys));
  texts_count = λ fit.
      let size = length-append xs ys in
      let few : a.texts_length + length xs < 2 ^ 32 = omega (arith, fit, size) in
      let count = p.texts_count few in
      let more : b.texts_length + length ys < 2 ^ 32 = omega (arith, fit, size, count) in
      omega (arith, q.texts_count more, count, size);
}

-- what was written in several calls
adds_parts : (parts : List (List ℕ)) (a b : NodeBuilder)
    → FoldsTo (λ (old : NodeBuilder) (bytes : List ℕ) (new : NodeBuilder). AddsText old new bytes) a parts b
    → AddsText a b (concat parts)
adds_parts [] a b same = subst (λ (it : NodeBuilder). AddsText a it []) same (adds_no_text a)
adds_parts (p ∷ ps) a b h = adds_text_more a h.0 b p (concat ps) h.1 (adds_parts ps h.0 b h.2)

pub adds_written : (a b : NodeBuilder) (bytes : List ℕ)
    → WritesInCalls (λ (old : NodeBuilder) (bytes : List ℕ) (new : NodeBuilder). AddsText old new bytes) a bytes b
    → AddsText a b bytes
adds_written a b bytes h = subst (AddsText a b) h.whole (adds_parts h.parts a b h.calls)

-- ---- a node whose text was appended before it

pub adds_leaf : (before now opened new : NodeBuilder) (node : Node Content) (index : ℕ) (value : Stored)
    → AddsText before now (encode_utf8_all (text_of_node node)) → index ≡ now.nodes_length
    → Adds (counted now) opened [] → PutsNode opened new → new.nodes.now ≡ set opened.nodes.now index value
    → ((source : List ℕ) → IsTableOf source opened.table.now → NodeFits before.texts_length node
    → now.texts_length ≡ before.texts_length + byte_count (text_of_node node)
    → value ≡ written_node source before.texts_length node)
    → Adds before new (node ∷ [])
adds_leaf before now opened new node index value text at opens puts put is = record {
  keeps = keeps_further before now new text.keeps (keeps_further now opened new kept puts.keeps);
  written = λ source table fit.
      let t = text_of_node node in
      let count = text.texts_count fit.1.0.texts in
      let there = subst (λ b. IsTableOf source b.now) (sym text.keeps.table) table in
      let few : now.nodes_length + 1 + 0 < 2 ^ 32 = omega (arith, fit.0, text.nodes_count) in
      let w = opens.written source there (few, tt) in
      let node_is = is source (subst (λ b. IsTableOf source b.now) (sym opens.keeps.table) there) fit.1.0 count in
      record {
        nodes =
            put
            ∙ (ap₂ (λ (b : List Stored) (i : ℕ). set b i value) (w.nodes ∙ text.nodes) (at ∙ text.nodes_count)
            ∙ ap (λ (v : Stored). set before.nodes.now before.nodes_length v) node_is);
        nodes_count = omega (arith, puts.nodes_count, w.nodes_count, text.nodes_count);
        texts =
            puts.texts
            ∙ (w.texts ∙ (text.texts fit.1.0.texts
            ∙ ap (λ (u : List ℕ). with_written before.texts.now before.texts_length (encode_utf8_all u))
            (sym (append-nil t))));
        texts_count =
            puts.texts_count
            ∙ (omega (arith, w.texts_count, count)
            ∙ ap (λ (u : List ℕ). before.texts_length + byte_count u) (sym (append-nil t)));
      };
}
  where
    kept : KeepsBuffers now opened
    kept = record { table = opens.keeps.table; nodes = opens.keeps.nodes; texts = opens.keeps.texts }
