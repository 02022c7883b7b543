-- A source is as long as what there is to tell of it.
use Rattle.std.proofs.Common.{◌≡◌, ℕ, suc, ◌+◌, ◌≤◌, List, [], ◌∷◌, length, refl, ap, arith}
use Rattle.std.specs.Prelude.{Result, Ok, Err}
use Rattle.std.specs.Str.{chars}
use Rattle.std.proofs.lemmas.Str.{encodes-chars}
use Rattle.graphql_lexical.specs.Cutting.{Lexeme}
use Rattle.graphql_grammar.specs.Tree.{Definition}
use Rattle.graphql_nodes.specs.Nodes as nodes
use Rattle.graphql_nodes.specs.Nodes.{document_nodes}
use Rattle.graphql_nodes.proofs.Public.{HasNodes, definitions_have_nodes, few_nodes_of_source}
use Rattle.juniper_tokens.proofs.Public.{chars_within}
use Rattle.juniper_values.specs.Scalar.{Content}
use Rattle.firthnapkin_results.specs.Nodes.{byte_count, written_nodes}
use Rattle.juniper_nodes.specs.NodeTexts.{text_of_node}
use Rattle.firthnapkin_results.specs.declared.error.Error.{Error}
use Rattle.firthnapkin_results.specs.declared.flat.Parsed.{Parsed}
use Rattle.firthnapkin_results.specs.declared.node.Node.{Node}
use Rattle.firthnapkin_results.specs.declared.flat.Parsed.TheVariants as parsed
use Rattle.firthnapkin_results.specs.declared.limits.Limits.{Limits}
use Rattle.firthnapkin_results.specs.declared.source.Unread.{Unread}
use Rattle.firthnapkin_results.specs.Answers.{HasDocument, IfTree, ReturnsBy, nodes_in, nodes_of, scalars, texts_in, texts_of}
use Rattle.firthnapkin_results.proofs.ShortScalars.{short_texts}
use Rattle.firthnapkin_results.proofs.Sources.{AreDefinitions, IsRead, document_read}

pub written-length : (source : List ℕ) (at : ℕ) (ns : List (nodes.Node Content))
    → length (written_nodes source at ns) ≡ length ns
written-length source at [] = refl
written-length source at (n ∷ ns) = ap suc (written-length source (at + byte_count (text_of_node n)) ns)

module _ {A : Type 0} (R : A → List Lexeme → Type 0) (nodes_of_it : A → List (nodes.Node Content))
    (has : HasNodes scalars R nodes_of_it) where
  pub within_read : (source : List ℕ) (x : A) → IsRead R source x
      → (length (nodes_in source (nodes_of_it x)) ≤ length source) × (length (texts_in (nodes_of_it x)) ≤ length source)
  within_read source x h =
      let few = few_nodes_of_source scalars R nodes_of_it has h.lexemes x h.alone (chars source) h.cut in
      let short = short_texts R nodes_of_it has (chars source) h.lexemes x h.cut h.alone in (
        omega (arith, few, written-length (chars source) 0 (nodes_of_it x), chars_within source h.utf8),
        omega (arith, short, ap length (encodes-chars source h.utf8)),
      )

  module _ (Reads : List ℕ → Limits → A → Type 0) (IsRefused IsDeep : List ℕ → Limits → Error → Type 0)
      (read : (source : List ℕ) (limits : Limits) (x : A) → Reads source limits x → IsRead R source x) where
    pub lengths_within : (source : List ℕ) (limits : Limits) (old_nodes new_nodes : List Node)
        (old_texts new_texts : List ℕ) (result : Result Parsed Unread)
        → ReturnsBy Reads nodes_of_it IsRefused IsDeep source limits old_nodes new_nodes old_texts new_texts result
        → IfTree result (λ lengths. (lengths.nodes ≤ length source) × (lengths.texts ≤ length source))
    lengths_within source limits on nn ot nt (Ok (parsed.Tree lengths)) h =
        let within = within_read source h.1.0 (read source limits h.1.0 h.1.1) in
        (omega (arith, within.0, h.1.2.nodes_count), omega (arith, within.1, h.1.2.texts_count))
    lengths_within source limits on nn ot nt (Ok (parsed.Refused error)) h = tt
    lengths_within source limits on nn ot nt (Ok (parsed.TooDeep error)) h = tt
    lengths_within source limits on nn ot nt (Ok (parsed.TooMany error)) h = tt
    lengths_within source limits on nn ot nt (Err unread) h = tt

pub within_source : (source : List ℕ) (limits : Limits) (tree : List (Definition Content))
    → HasDocument source limits tree
    → (length (nodes_of source tree) ≤ length source) × (length (texts_of tree) ≤ length source)
within_source source limits tree h = within_read AreDefinitions document_nodes (definitions_have_nodes scalars) source
    tree
    (document_read source limits tree h)
