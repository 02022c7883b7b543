-- Where tokens are nested too deep.
use Rattle.std.specs.Prelude.{ℕ, List, [], ◌∷◌, ◌++◌}
use Rattle.graphql_lexical.specs.Cutting.{Lexeme}
use Rattle.graphql_lexical.specs.Nesting.{IsFirstDeeper}
use Rattle.graphql_grammar.specs.Tree.{Scalars}
use Rattle.graphql_grammar.specs.Faults.{Begins}

-- t, after the tokens before it, is the first at which the nesting exceeds depth, and they begin a document with it.
pub record IsTooDeep {C F : Type 0} (S : Scalars C F) (depth : ℕ) (ts before : List Lexeme) (t : Lexeme) : Type 0 where
  pub deeper : IsFirstDeeper depth ts before t
  pub begins : Begins S (before ++ t ∷ [])
