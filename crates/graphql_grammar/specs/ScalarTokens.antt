-- Scalar tokens, and what scalar types read from them.
use Rattle.std.specs.Prelude.{◌≡◌, Ok, IsOk}
use Rattle.graphql_lexical.specs.Cutting.{Lexeme}
use Rattle.graphql_grammar.specs.Tree.{Scalars}
use Rattle.graphql_grammar.specs.Grammar.{IsScalarKind}

abbrev pub IsNoScalar : Lexeme → Type 0
IsNoScalar t = IsScalarKind t.kind → ⊥

module _ {C F : Type 0} where
  -- The reading accepts the token, if it is a scalar.
  abbrev pub IsRead : Scalars C F → Lexeme → Type 0
  IsRead S t = IsScalarKind t.kind → IsOk (S.read t.kind t.text)

  -- What S reads from the token, if it is a scalar and S reads it, T reads from it, too.
  abbrev pub IsReadAlso : (S T : Scalars C F) → Lexeme → Type 0
  IsReadAlso S T t = (c : C) → IsScalarKind t.kind → S.read t.kind t.text ≡ Ok c → T.read t.kind t.text ≡ Ok c
