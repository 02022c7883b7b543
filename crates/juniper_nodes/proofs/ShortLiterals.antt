-- What a literal means is no longer, in bytes, than its token.
use Rattle.std.proofs.Common.{◌≡◌, ◌≤◌, Some, Ok, Err, List, length, inl, inr, refl, sym, ap, ◌∙◌}
use Rattle.std.specs.Prelude.{encode_utf8_all}
use Rattle.graphql_lexical.specs.declared.kind.Kind.TheVariants.{String, BlockString, Int}
use Rattle.graphql_lexical.specs.Cutting.{Lexeme, Cut}
use Rattle.graphql_grammar.specs.Tree.{Definition}
use Rattle.graphql_grammar.specs.Grammar.{IsDefinition, IsDocument, Several}
use Rattle.graphql_nodes.specs.Nodes.{document_nodes}
use Rattle.graphql_nodes.proofs.Public.{definitions_have_nodes}
use Rattle.juniper_values.specs.Text.{Text}
use Rattle.juniper_values.specs.Scalar.{Content, integer, text, boolean, custom, Reading}
use Rattle.juniper_values.specs.Default.{default_reading}
use Rattle.juniper_tree.specs.Scalars.{stated}
use Rattle.juniper_nodes.specs.Literal.{literal_reading, int_reading, str_in, of_int, of_large_int, of_float, of_string, of_block}
use Rattle.juniper_nodes.specs.NodeTexts.{node_texts}
use Rattle.juniper_nodes.proofs.Literals.{shown_after}
use Rattle.juniper_nodes.proofs.ShortContents.{MakesShort, ReadsShort, without_text, string_kept, of_block_means, default_is_short}
use Rattle.juniper_nodes.proofs.NodeTexts.{texts_are_short}

of_string_means : (t u : Text) → str_in (of_string t u) ≡ Some u
of_string_means t u = ap (λ v. Some v) (shown_after t u)

int_kept : (t : Text) (r : Reading) → MakesShort t r → MakesShort t (int_reading t r)
int_kept t (Ok (integer n)) short c e = without_text t (of_int n t) refl c e
int_kept t (Ok (text u)) short c e = short c e
int_kept t (Ok (boolean b)) short c e = short c e
int_kept t (Ok (custom ns)) short c e = short c e
int_kept t (Err f) short c e = without_text t (of_large_int t) refl c e

literal_is_short : ReadsShort literal_reading
literal_is_short k t (inl s) c e =
    string_kept t (of_string t) (of_string_means t) (default_reading String t) (default_is_short String t (inl refl)) c
    (ap (λ k. literal_reading k t) (sym s) ∙ e)
literal_is_short k t (inr (inl s)) c e =
    string_kept t (of_block t) (of_block_means t) (default_reading BlockString t)
    (default_is_short BlockString t (inr (inl refl))) c
    (ap (λ k. literal_reading k t) (sym s) ∙ e)
literal_is_short k t (inr (inr (inl s))) c e =
    without_text t (of_float t) refl c (ap (λ k. literal_reading k t) (sym s) ∙ e)
literal_is_short k t (inr (inr (inr s))) c e =
    int_kept t (default_reading Int t) (default_is_short Int t (inr (inr (inr refl)))) c
    (ap (λ k. literal_reading k t) (sym s) ∙ e)

pub short_texts : (source : Text) (ts : List Lexeme) (ds : List (Definition Content)) → Cut source ts
    → IsDocument (stated literal_reading boolean) ds ts
    → length (encode_utf8_all (node_texts (document_nodes ds))) ≤ length (encode_utf8_all source)
short_texts =
    let scalars = stated literal_reading boolean in
    texts_are_short literal_reading literal_is_short (Several (IsDefinition scalars)) document_nodes
    (definitions_have_nodes scalars)
