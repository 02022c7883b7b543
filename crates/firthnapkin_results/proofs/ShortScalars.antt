-- What a scalar of a source means is no longer, in bytes, than its token.
use Rattle.std.proofs.Common.{◌≤◌, Ok, Err, List, [], length, inl, inr, refl, sym, ap, ◌∙◌}
use Rattle.std.specs.Prelude.{encode_utf8_all}
use Rattle.graphql_lexical.specs.declared.kind.Kind.TheVariants.{String, BlockString, EndOfFile, Int}
use Rattle.graphql_lexical.specs.Cutting.{Lexeme, Cut}
use Rattle.graphql_lexical.specs.Parts.{◌·◌}
use Rattle.graphql_grammar.specs.Grammar.{Is}
use Rattle.graphql_nodes.specs.Nodes.{Node}
use Rattle.graphql_nodes.proofs.Public.{HasNodes}
use Rattle.juniper_values.specs.Text.{Text}
use Rattle.juniper_values.specs.Scalar.{Content, boolean, Reading}
use Rattle.juniper_values.specs.Default.{default_reading}
use Rattle.juniper_tree.specs.Scalars.{stated}
use Rattle.juniper_nodes.specs.Literal.{of_large_int, of_float, of_block}
use Rattle.juniper_nodes.specs.NodeTexts.{node_texts}
use Rattle.juniper_nodes.proofs.Public.{MakesShort, ReadsShort, without_text, string_kept, of_block_means, default_is_short, texts_are_short}
use Rattle.firthnapkin_results.specs.Scalars.{int_reading, scalar_reading}

int_kept : (t : Text) (r : Reading) → MakesShort t r → MakesShort t (int_reading r)
int_kept t (Ok content) short c e = short c e
int_kept t (Err f) short c e = without_text t (of_large_int []) refl c e

scalar_is_short : ReadsShort scalar_reading
scalar_is_short k t (inl s) c e =
    default_is_short String t (inl refl) c (ap (λ k. scalar_reading k t) (sym s) ∙ e)
scalar_is_short k t (inr (inl s)) c e =
    string_kept t (of_block []) (of_block_means []) (default_reading BlockString t)
    (default_is_short BlockString t (inr (inl refl))) c
    (ap (λ k. scalar_reading k t) (sym s) ∙ e)
scalar_is_short k t (inr (inr (inl s))) c e =
    without_text t (of_float []) refl c (ap (λ k. scalar_reading k t) (sym s) ∙ e)
scalar_is_short k t (inr (inr (inr s))) c e =
    int_kept t (default_reading Int t) (default_is_short Int t (inr (inr (inr refl)))) c
    (ap (λ k. scalar_reading k t) (sym s) ∙ e)

pub short_texts : {A : Type 0} (R : A → List Lexeme → Type 0) (nodes : A → List (Node Content))
    → HasNodes (stated scalar_reading boolean) R nodes
    → (source : Text) (ts : List Lexeme) (x : A) → Cut source ts → (R x · Is EndOfFile) ts
    → length (encode_utf8_all (node_texts (nodes x))) ≤ length (encode_utf8_all source)
short_texts = texts_are_short scalar_reading scalar_is_short
