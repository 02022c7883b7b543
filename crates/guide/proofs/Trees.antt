-- From the parser's promise to the caller's.
use Rattle.std.proofs.Common.{◌≡◌, ℕ, List, [], ◌∷◌, ◌++◌, sym, subst, ◌∙◌, append_assoc}
use Rattle.std.specs.List.{AllByRecursion}
use Rattle.graphql_grammar.specs.Tree.{Definition}
use Rattle.juniper_tokens.specs.Errors.{Fault}
use Rattle.juniper_values.specs.Scalar.{Content}
use Rattle.juniper_tree.specs.Scalars.{default_scalars}
use Rattle.graphql_lexical.specs.Place.{Span}
use Rattle.juniper_parser.specs.Promise.{HasTree, IsRefusal, lexical, grammatical}
use Rattle.graphql_lexical.specs.Cutting.{Lexeme}
use Rattle.graphql_lexical.proofs.Public.{one_cut_or_break}
use Rattle.graphql_grammar.specs.Grammar.{IsDocument}
use Rattle.graphql_grammar.specs.Tokens.{IsSpelled}
use Rattle.graphql_grammar.proofs.Public.{cut_spelled}
use Rattle.juniper_documents.specs.Within.{HasTooDeep, IsWithin}
use Rattle.guide.specs.Documents.{IsDocumentText, IsDocumentWithin}

pub some_tree : (source : List ℕ) (tree : List (Definition Content)) → HasTree default_scalars source tree
    → IsDocumentText source
some_tree source tree h = (tree, h)

pub no_tree : (source : List ℕ) (fault : Fault) → IsRefusal default_scalars source fault → IsDocumentText source → ⊥
no_tree source _ (lexical b) document =
    (one_cut_or_break source).never_both document.1.lexemes _ _ document.1.cut b
no_tree source _ (grammatical {ts} {before} {t} cut refused begins ends) document =
    let same = (one_cut_or_break source).one_cut document.1.lexemes ts document.1.cut cut in
    let w = refused.0 in
    let whole : ts ≡ (before ++ t ∷ []) ++ w.after = w.whole ∙ sym (append_assoc before (t ∷ []) w.after) in
    w.ends (record {
      more = w.after;
      tree = document.0;
      document = subst (λ (l : List Lexeme). IsDocument default_scalars document.0 l) (same ∙ whole)
          document.1.document;
      spelled = subst (λ (l : List Lexeme). AllByRecursion IsSpelled l) whole (cut_spelled source ts cut);
    })

pub tree_within : (depth : ℕ) (source : List ℕ) (tree : List (Definition Content)) → HasTree default_scalars source tree
    → IsWithin default_scalars depth source → IsDocumentWithin depth source
tree_within depth source tree h within = ((tree, h), within)

pub no_tree_within : (depth : ℕ) (source : List ℕ) (fault : Fault) → IsRefusal default_scalars source fault
    → IsDocumentWithin depth source → ⊥
no_tree_within depth source fault refusal document = no_tree source fault refusal document.0

pub too_deep : (depth : ℕ) (source : List ℕ) (span : Span) → HasTooDeep default_scalars depth source span
    → IsDocumentWithin depth source → ⊥
too_deep depth source span deep document = document.1.none span deep
