-- Two lists of tokens, refused alike.
use Rattle.std.specs.Prelude.{◌≡◌, List}
use Rattle.std.specs.List.{AllZip}
use Rattle.graphql_lexical.specs.Cutting.{Lexeme}
use Rattle.graphql_lexical.specs.laws.Alike.{Alike}
use Rattle.graphql_grammar.specs.Faults.{DocumentRefusedAt}
use Rattle.graphql_grammar.specs.Tree.{Scalars}
use Rattle.juniper_tokens.specs.Errors.{Error, UnexpectedEndOfFile, Fault}
use Rattle.juniper_parser.specs.Promise.{unexpected}

-- Both are refused after tokens that are alike, at tokens that are, where these faults stand, with the same error.
pub record AreRefusedAlike {C : Type 0} (S : Scalars C Error) (ts us : List Lexeme) (f g : Fault) : Type 0 where
  pub before : List Lexeme
  pub other_before : List Lexeme
  pub fronts : AllZip Alike before other_before
  pub token : Lexeme
  pub other : Lexeme
  pub tokens : Alike token other
  pub refused : DocumentRefusedAt UnexpectedEndOfFile unexpected S ts before token f.error
  pub other_refused : DocumentRefusedAt UnexpectedEndOfFile unexpected S us other_before other g.error
  pub span : f.span ≡ token.span
  pub other_span : g.span ≡ other.span
  pub error : f.error ≡ g.error
