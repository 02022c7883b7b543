-- A refusal by clauses, each of which says what follows where the text can or can't be cut into tokens.
use Rattle.std.specs.Prelude.{◌≡◌, ℕ, List, [], ◌∷◌, ◌++◌}
use Rattle.graphql_lexical.specs.Place.{Place}
use Rattle.graphql_lexical.specs.Kinds.{LexicalError}
use Rattle.graphql_lexical.specs.Cutting.{Lexeme, Cut, Breaks}
use Rattle.graphql_grammar.specs.Tree.{Scalars, Definition}
use Rattle.graphql_grammar.specs.Grammar.{IsDocument}
use Rattle.graphql_grammar.specs.Faults.{DocumentRefusedAt}
use Rattle.graphql_grammar.specs.Texts.{BeginsText}
use Rattle.juniper_tokens.specs.Errors.{Error, UnexpectedEndOfFile, Fault}
use Rattle.juniper_parser.specs.Promise.{lexical_fault, unexpected}

module _ {C : Type 0} (S : Scalars C Error) where
  -- The fault is that of the grammar: it has the span of the token at which the tokens are refused, and names its error.
  pub record IsRefusedAt (lexemes : List Lexeme) (fault : Fault) : Type 0 where
    pub before : List Lexeme
    pub token : Lexeme
    pub refused : DocumentRefusedAt UnexpectedEndOfFile unexpected S lexemes before token fault.error
    pub span : fault.span ≡ token.span

  -- The text is no document. Where it can't be cut into tokens, the fault is its first lexical error. Where it can, the
  -- fault is that of the grammar.
  pub record IsRefusalByClauses (source : List ℕ) (fault : Fault) : Type 0 where
    pub no_document : (lexemes : List Lexeme) (tree : List (Definition C)) → Cut source lexemes → IsDocument S tree lexemes → ⊥
    pub lexical : (error : LexicalError) (at : Place) → Breaks source error at → fault ≡ lexical_fault error at
    pub grammatical : (lexemes : List Lexeme) → Cut source lexemes → IsRefusedAt lexemes fault

  -- Where the text can be cut into tokens, the fault is that of the grammar, in characters, too: the text up to the end
  -- of the token before the refused one, and a space, can be completed to a document's; up to the refused one's it
  -- can't.
  abbrev pub IsRefusalInText : List ℕ → Fault → Type 0
  IsRefusalInText source fault = (lexemes : List Lexeme) → Cut source lexemes → (at : IsRefusedAt lexemes fault)
      × BeginsText S source at.before × (BeginsText S source (at.before ++ at.token ∷ []) → ⊥)
