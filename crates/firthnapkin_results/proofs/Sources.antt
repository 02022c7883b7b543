-- What is read of a source: a document's definitions, a value or a type.
use Rattle.std.specs.Prelude.{ℕ, List}
use Rattle.std.specs.Str.{chars, IsUtf8}
use Rattle.graphql_lexical.specs.declared.kind.Kind.TheVariants.{EndOfFile}
use Rattle.graphql_lexical.specs.Cutting.{Lexeme, Cut}
use Rattle.graphql_lexical.specs.Parts.{◌·◌}
use Rattle.graphql_grammar.specs.Grammar.{Is, IsDefinition, Several}
use Rattle.graphql_grammar.specs.Tree.{Definition}
use Rattle.juniper_values.specs.Scalar.{Content}
use Rattle.firthnapkin_results.specs.Answers.{HasDocument, scalars}
use Rattle.firthnapkin_results.specs.Literals.{IsOne}
use Rattle.firthnapkin_results.specs.declared.limits.Limits.{Limits}

-- The source is UTF-8, and its tokens are those of this and the end.
pub record IsRead {A : Type 0} (R : A → List Lexeme → Type 0) (source : List ℕ) (x : A) : Type 0 where
  pub utf8 : IsUtf8 source
  pub lexemes : List Lexeme
  pub cut : Cut (chars source) lexemes
  pub alone : (R x · Is EndOfFile) lexemes

abbrev pub AreDefinitions : List (Definition Content) → List Lexeme → Type 0
AreDefinitions = Several (IsDefinition scalars)

pub document_read : (source : List ℕ) (limits : Limits) (tree : List (Definition Content))
    → HasDocument source limits tree → IsRead AreDefinitions source tree
document_read source limits tree h = record {
  utf8 = h.utf8;
  lexemes = h.has_tree.lexemes;
  cut = h.has_tree.cut;
  alone = h.has_tree.document;
}

pub literal_read : {A : Type 0} (R : A → List Lexeme → Type 0) (source : List ℕ) (limits : Limits) (x : A)
    → IsOne R source limits x → IsRead R source x
literal_read R source limits x h =
    record { utf8 = h.utf8; lexemes = h.has.lexemes; cut = h.has.cut; alone = h.has.alone }
