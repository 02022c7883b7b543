-- From the parser's promise at `RefuseAll` to documents without scalar tokens.
use Rattle.std.proofs.Common.{◌≡◌, true≢false, refl, sym, ℕ, List, [], ◌∷◌, Ok, Err, Result}
use Rattle.std.specs.List.{AllByRecursion}
use Rattle.graphql_lexical.specs.Cutting.{Lexeme}
use Rattle.graphql_grammar.specs.ScalarTokens.{IsNoScalar, IsRead, IsReadAlso}
use Rattle.graphql_grammar.specs.Grammar.{IsDocument}
use Rattle.graphql_grammar.specs.Tree.{Scalars, Definition}
use Rattle.juniper_tokens.specs.declared.error.ParseFailure.{ParseFailure}
use Rattle.juniper_tokens.specs.declared.error.ParseFailure.TheVariants as failure
use Rattle.juniper_tokens.specs.Errors.{Error, Fault, view_fault}
use Rattle.juniper_values.specs.Scalar.{Content, boolean}
use Rattle.juniper_parser.specs.Promise.{HasTree, IfRefused, IsRefusal}
use Rattle.juniper_documents.specs.laws.RefusalClauses.{IsRefusalByClauses}
use Rattle.std.specs.Result.{IfOk}
use Rattle.juniper_odd.specs.WithoutScalars.{no_literals, IsDocumentWithoutScalars, AcceptsExactly}

-- what is read by a type that reads nothing is no scalar
unread : (ts : List Lexeme) → AllByRecursion (IsRead no_literals) ts → AllByRecursion IsNoScalar ts
unread [] h = tt
unread (t ∷ ts) h = ((λ s. true≢false (sym (h.0 s))), unread ts h.1)

-- where there is no scalar, all that is read from one is read also by another
read_also : (S T : Scalars Content Error) (ts : List Lexeme) → AllByRecursion IsNoScalar ts
    → AllByRecursion (IsReadAlso S T) ts
read_also S T [] h = tt
read_also S T (t ∷ ts) h = ((λ c s e. absurd (h.0 s)), read_also S T ts h.1)

abbrev pub Read : Type 0
Read = (ts : List Lexeme) (tree : List (Definition Content)) → IsDocument no_literals tree ts
    → AllByRecursion (IsRead no_literals) ts

abbrev pub OfOthers : Type 0
OfOthers = (T : Scalars Content Error) (ts : List Lexeme) (tree : List (Definition Content)) → T.of_bool ≡ boolean
    → AllByRecursion (IsReadAlso T no_literals) ts → IsDocument T tree ts → IsDocument no_literals tree ts

pub accepts_exactly : {X : Type 0} (view : X → List (Definition Content)) (source : List ℕ)
    (result : Result X ParseFailure) → Read → OfOthers
    → ((fault : Fault) → IsRefusal no_literals source fault → IsRefusalByClauses no_literals source fault)
    → IfOk result (λ tree. HasTree no_literals source (view tree))
    → IfRefused result (λ fault. IsRefusal no_literals source (view_fault fault))
    → AcceptsExactly result (IsDocumentWithoutScalars source)
accepts_exactly view source (Ok x) read of_others clauses h k = record {
  lexemes = h.lexemes;
  cut = h.cut;
  no_scalar = unread h.lexemes (read h.lexemes (view x) h.document);
  scalars = no_literals;
  truths = refl;
  tree = view x;
  document = h.document;
}
accepts_exactly view source (Err (failure.Refused fault)) read of_others clauses h k =
    λ d. (clauses (view_fault fault) k).no_document d.lexemes d.tree d.cut
    (of_others d.scalars d.lexemes d.tree d.truths (read_also d.scalars no_literals d.lexemes d.no_scalar)
    d.document)
accepts_exactly view source (Err failure.Memory) read of_others clauses h k = tt
