-- Where a text is refused, in characters.
use Rattle.std.specs.Prelude.{List, ◌++◌, codes}
use Rattle.graphql_lexical.specs.Cutting.{Lexeme, up_to, Cut}
use Rattle.graphql_grammar.specs.Tokens.{Text}
use Rattle.graphql_grammar.specs.Tree.{Scalars, Definition}
use Rattle.graphql_grammar.specs.Grammar.{IsDocument}

module _ {C F : Type 0} (S : Scalars C F) where
  -- The source up to the end of the last of these tokens, then a space and some further text, is a document's text. Its
  -- first tokens are these, with their spans.
  abbrev pub BeginsText : Text → List Lexeme → Type 0
  BeginsText source ts = (further : Text) × (after : List Lexeme) × (tree : List (Definition C))
      × Cut (up_to source ts ++ (codes " " ++ further)) (ts ++ after) × IsDocument S tree (ts ++ after)
