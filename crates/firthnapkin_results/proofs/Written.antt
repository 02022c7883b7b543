-- Nodes that are written one after another.
use Rattle.std.proofs.Common.{◌≡◌, ◌∙◌, ℕ, ◌+◌, ◌-◌, List, [], ◌∷◌, ◌++◌, length, sym, ap, arith, length-append, subst}
use Rattle.std.specs.Prelude.{encode_utf8_all}
use Rattle.std.specs.Str.{chars, IsUtf8}
use Rattle.std.proofs.lemmas.Grind.{flat_map-append}
use Rattle.std.proofs.lemmas.Str.{encodes-append, encodes-chars}
use Rattle.graphql_nodes.specs.Nodes as nodes
use Rattle.juniper_values.specs.Scalar.{Content}
use Rattle.juniper_nodes.specs.NodeTexts.{text_of_node, node_texts}
use Rattle.firthnapkin_results.specs.Fits.{NodesFit}
use Rattle.firthnapkin_results.specs.Nodes.{byte_count, written_node, written_nodes}

-- a text before the end of the source, as long as its bytes are
pub before_end : (end : ℕ) (text : List ℕ) → IsUtf8 text → end - length text ≡ end - byte_count (chars text)
before_end end text u = ap (λ bs. end - length bs) (sym (encodes-chars text u))

pub bytes-append : (t u : List ℕ) → byte_count (t ++ u) ≡ byte_count t + byte_count u
bytes-append t u = ap length (encodes-append t u) ∙ length-append (encode_utf8_all t) (encode_utf8_all u)

-- some nodes, and then others
pub written-append : (source : List ℕ) (at : ℕ) (ns ms : List (nodes.Node Content))
    → written_nodes source at ns ++ written_nodes source (at + byte_count (node_texts ns)) ms
    ≡ written_nodes source at (ns ++ ms)
written-append source at [] ms = ap (λ k. written_nodes source k ms) (omega arith)
written-append source at (n ∷ ns) ms =
    let next = at + byte_count (text_of_node n) in
    let same : at + byte_count (node_texts (n ∷ ns)) ≡ next + byte_count (node_texts ns) =
    omega (arith, bytes-append (text_of_node n) (node_texts ns)) in
    ap (λ ts. written_node source at n ∷ ts) (ap (λ k. written_nodes source next ns ++ written_nodes source k ms) same
    ∙ written-append source next ns ms)

pub texts-append : (ns ms : List (nodes.Node Content))
    → encode_utf8_all (node_texts ns) ++ encode_utf8_all (node_texts ms) ≡ encode_utf8_all (node_texts (ns ++ ms))
texts-append ns ms =
    sym (encodes-append (node_texts ns) (node_texts ms)) ∙ ap encode_utf8_all (sym (flat_map-append text_of_node ns ms))

-- nodes whose numbers fit, and then others
pub fits-append : (at : ℕ) (ns ms : List (nodes.Node Content)) → NodesFit at (ns ++ ms)
    → NodesFit at ns × NodesFit (at + byte_count (node_texts ns)) ms
fits-append at [] ms h = (tt, subst (λ (k : ℕ). NodesFit k ms) (omega arith) h)
fits-append at (n ∷ ns) ms h =
    let next = at + byte_count (text_of_node n) in
    let same : next + byte_count (node_texts ns) ≡ at + byte_count (node_texts (n ∷ ns)) =
    omega (arith, bytes-append (text_of_node n) (node_texts ns)) in
    let others = fits-append next ns ms h.1 in
    ((h.0, others.0), subst (λ (k : ℕ). NodesFit k ms) same others.1)
