-- A text that is a document.
use Rattle.std.specs.Prelude.{ℕ, List}
use Rattle.graphql_grammar.specs.Tree.{Definition}
use Rattle.juniper_values.specs.Scalar.{Content}
use Rattle.juniper_tree.specs.Scalars.{default_scalars}
use Rattle.juniper_parser.specs.Promise.{HasTree}
use Rattle.juniper_documents.specs.Within.{IsWithin}

abbrev pub IsDocumentText : List ℕ → Type 0
IsDocumentText source = (tree : List (Definition Content)) × HasTree default_scalars source tree

-- a document, no bracket of which is nested deeper
abbrev pub IsDocumentWithin : ℕ → List ℕ → Type 0
IsDocumentWithin depth source = IsDocumentText source × IsWithin default_scalars depth source
