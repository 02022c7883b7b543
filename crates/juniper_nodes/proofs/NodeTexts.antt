-- The texts of the nodes of a document, a value or a type are together no longer, in bytes, than its source, where
-- what each scalar means is no longer than its token.
use Rattle.std.proofs.Common.{◌≡◌, ℕ, ◌+◌, ◌≤◌, None, List, [], ◌∷◌, length, refl, ap, subst, ◌∙◌, arith, rules}
use Rattle.std.specs.Prelude.{codes, encode_utf8_all}
use Rattle.std.specs.List.{sum_by}
use Rattle.std.proofs.lemmas.List.Sums.{sum_by-cons, sum_by-append}
use Rattle.graphql_lexical.specs.declared.kind.Kind.{Kind}
use Rattle.graphql_lexical.specs.declared.kind.Kind.TheVariants.{EndOfFile}
use Rattle.graphql_lexical.specs.Cutting.{Lexeme, Cut}
use Rattle.graphql_lexical.proofs.Public.{cut_front}
use Rattle.graphql_grammar.specs.Tree.{TypeRef, NamedType, ListType, NonNullType}
use Rattle.graphql_lexical.specs.Parts.{◌·◌}
use Rattle.graphql_grammar.specs.Grammar.{Is, IsType}
use Rattle.graphql_nodes.specs.Nodes.{Node, Label, Unnamed, Named, OnType, Typed}
use Rattle.graphql_nodes.specs.Types.{type_text}
use Rattle.graphql_nodes.proofs.Public.{HasNodes, IsUntyped, Weighs, front_of}
use Rattle.juniper_values.specs.Text.{Text}
use Rattle.juniper_values.specs.Scalar.{Content, boolean, Reading}
use Rattle.juniper_tree.specs.Scalars.{stated}
use Rattle.juniper_nodes.specs.NodeTexts.{text_of_label, text_of_node, node_texts}
use Rattle.juniper_nodes.proofs.TextLengths.{size, size_is, size_joins}
use Rattle.juniper_nodes.proofs.SourceBytes.{weight, leads_bytes}
use Rattle.juniper_nodes.proofs.ShortContents.{ReadsShort}
use Rattle.graphql_lexical.proofs.Public.{by_places}

-- ---- types

own_token : (t : Lexeme) → (1 ≤ weight t) × (size t.text ≤ weight t)
own_token t = (omega arith, omega arith)

own_weight : (ts : List Lexeme) (t : Lexeme) → ts ≡ t ∷ [] → (1 ≤ sum_by weight ts) × (size t.text ≤ sum_by weight ts)
own_weight ts t e = let one = ap (sum_by weight) e ∙ sum_by-cons weight t [] in
    (omega (arith, one, (own_token t).0), omega (arith, one, (own_token t).1))

row_weight : {P Q : List Lexeme → Type 0} (ts : List Lexeme) (h : (P · Q) ts)
    → sum_by weight ts ≡ sum_by weight h.front + sum_by weight h.back
row_weight ts h = ap (sum_by weight) h.whole ∙ sum_by-append weight h.front h.back

type_is_short : (ts : List Lexeme) (type : TypeRef) → IsType type ts → size (type_text type) ≤ sum_by weight ts
unfolding type_text
type_is_short ts (NamedType name) h = omega (arith, (own_weight ts _ h.1).1)
type_is_short ts (ListType size_of type) (h, s) =
    omega (
      arith,
      row_weight ts h,
      row_weight h.back h.second,
      (own_weight h.front _ h.first.2).0,
      type_is_short h.second.front type h.second.first,
      (own_weight h.second.back _ h.second.second.2).0,
      size_joins (type_text type) (codes "]"),
    )
type_is_short ts (NonNullType type) (h, n) =
    omega (
      arith,
      row_weight ts h,
      type_is_short h.front type h.first,
      (own_weight h.back _ h.second.2).0,
      size_joins (type_text type) (codes "!"),
    )

-- ---- sources

abbrev measure : Node Content → ℕ
measure n = size (text_of_node n)

untyped_is_none : (l : Label) → IsUntyped l → text_of_label l None ≡ []
untyped_is_none Unnamed u = refl
untyped_is_none (Named word) u = refl
untyped_is_none (OnType name condition) u = refl
untyped_is_none (Typed type) u = absurd u

texts_weigh : (reading : Kind → Text → Reading) → ReadsShort reading → Weighs (stated reading boolean) measure weight
texts_weigh reading short = record {
  types = λ ts type span h. type_is_short ts type h;
  scalars = λ t c span s e. omega (arith, short t.kind t.text s c e, (own_token t).1);
  truths = λ t b span. omega arith;
  others = λ t k span label inner u. omega (arith, ap size (untyped_is_none label u));
}

texts_size : (ns : List (Node Content)) → size (node_texts ns) ≡ sum_by measure ns
texts_size [] = search rules
texts_size (n ∷ ns) = omega
    (arith, size_joins (text_of_node n) (node_texts ns), sum_by-cons measure n ns, texts_size ns)

-- of a part that R recognizes, and then the end
pub texts_are_short : (reading : Kind → Text → Reading) → ReadsShort reading
    → {A : Type 0} (R : A → List Lexeme → Type 0) (nodes : A → List (Node Content))
    → HasNodes (stated reading boolean) R nodes
    → (source : Text) (ts : List Lexeme) (x : A) → Cut source ts → (R x · Is EndOfFile) ts
    → length (encode_utf8_all (node_texts (nodes x))) ≤ length (encode_utf8_all source)
texts_are_short reading short R nodes has source ts x c h =
    let front = front_of (stated reading boolean) R nodes has ts x h measure weight (texts_weigh reading short) in
    let parts = cut_front source front.front front.end [] 0 (by_places source _ (subst (Cut source) front.whole c)) in
    let tokens = leads_bytes source 0 front.front parts.0 parts.1 in
    omega (
      arith,
      front.le,
      tokens,
      texts_size (nodes x),
      size_is (node_texts (nodes x)),
      size_is source,
    )
