-- The fragments of a document, by their names (GraphQL specification, October 2021, section 2.8).
use Rattle.std.specs.Prelude.{◌≡◌, List, map}
use Rattle.graphql_grammar.specs.Tree as tree
use Rattle.juniper_tokens.specs.declared.span.Spanning.{Spanning}
use Rattle.juniper_tree.specs.View.{view_definition}
use Rattle.juniper_tree.specs.declared.ast.Definition.TheVariants as definition
use Rattle.juniper_tree.specs.declared.ast.Fragment.{Fragment}
use Rattle.juniper_complexity.specs.Parts.{fragment_at}
use Rattle.juniper_outlines.specs.Names.{Knows}
use Rattle.juniper_requests.specs.declared.fragments.Fragments.{Fragments}

module _ {S C : Type 0} (content : S → C) where
  -- a fragment of the code, as the grammar sees it
  abbrev pub view_fragment : Spanning (Fragment S) → tree.Definition C
  view_fragment f = view_definition content (definition.Fragment f)

  -- the map leads from each name to the first fragment of the document
  abbrev pub AreFragmentsOf : List (tree.Definition C) → Fragments S → Type 0
  AreFragmentsOf document fragments = (map (view_definition content) fragments.document.now ≡ document)
      × Knows fragments.names (fragment_at document)
