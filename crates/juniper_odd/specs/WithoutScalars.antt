-- Documents without scalar tokens.
use Rattle.std.specs.Prelude.{◌≡◌, ℕ, List, Result, Ok, Err}
use Rattle.std.specs.List.{AllByRecursion}
use Rattle.graphql_lexical.specs.Cutting.{Lexeme, Cut}
use Rattle.graphql_grammar.specs.ScalarTokens.{IsNoScalar}
use Rattle.graphql_grammar.specs.Grammar.{IsDocument}
use Rattle.graphql_grammar.specs.Tree.{Scalars, Definition}
use Rattle.juniper_tokens.specs.declared.error.ParseFailure.{ParseFailure}
use Rattle.juniper_tokens.specs.declared.error.ParseFailure.TheVariants as failure
use Rattle.juniper_tokens.specs.Errors.{Error}
use Rattle.juniper_values.specs.Scalar.{Content, boolean}
use Rattle.juniper_tree.specs.Scalars.{stated}
use Rattle.juniper_odd.specs.RefuseAll.{refuse_all_reading}

-- what `RefuseAll` states
abbrev pub no_literals : Scalars Content Error
no_literals = stated refuse_all_reading boolean

-- None of the text's tokens is a scalar, and they are a document, whatever its scalar type reads.
pub record IsDocumentWithoutScalars (source : List ℕ) : Type 0 where
  pub lexemes : List Lexeme
  pub cut : Cut source lexemes
  pub no_scalar : AllByRecursion IsNoScalar lexemes
  pub scalars : Scalars Content Error
  pub truths : scalars.of_bool ≡ boolean
  pub tree : List (Definition Content)
  pub document : IsDocument scalars tree lexemes

-- A tree is returned where P holds, and an error where it doesn't. Memory may run out.
abbrev pub AcceptsExactly : {X : Type 0} → Result X ParseFailure → Type 0 → Type 0
AcceptsExactly (Ok x) P = P
AcceptsExactly (Err (failure.Refused fault)) P = ¬ P
AcceptsExactly (Err failure.Memory) P = Unit {0}
