-- A sink of the definitions of a document, and what it is given.
use Rattle.std.specs.Prelude.{◌≡◌, ℕ, List, [], ◌∷◌, ◌++◌, Result, Ok, Err}
use Rattle.graphql_lexical.specs.Place.{Place}
use Rattle.graphql_lexical.specs.Kinds.{LexicalError}
use Rattle.graphql_lexical.specs.Cutting.{Lexeme, Cut, Breaks}
use Rattle.graphql_grammar.specs.Tree.{Scalars, Definition}
use Rattle.graphql_grammar.specs.Grammar.{Each, IsDefinition}
use Rattle.juniper_tokens.specs.declared.error.ParseFailure.{ParseFailure}
use Rattle.juniper_tokens.specs.Errors.{Error}
use Rattle.juniper_tokens.specs.Cursor.{Read, Fails}
use Rattle.juniper_parser.specs.Promise.{HasTree}

-- These definitions stand at the front of the tokens, in a row.
pub record StandInFront {C : Type 0} (S : Scalars C Error) (lexemes : List Lexeme)
    (ds : List (Definition C)) : Type 0 where
  pub front : List Lexeme
  pub rest : List Lexeme
  pub whole : lexemes ≡ front ++ rest
  pub each : Each (IsDefinition S) ds front

-- It holds the definitions of a source that it has taken.
module _ {D C : Type 0} (holds : List ℕ → D → List (Definition C) → Type 0) (old new : D) where
  -- these definitions were added after the others
  pub record Gains (added : List (Definition C)) : Type 0 where
    pub definitions : (source : List ℕ) (before : List (Definition C)) → holds source old before
        → holds source new (before ++ added)

  -- the source's tree was added after the others
  pub record GainsTree (S : Scalars C Error) (source : List ℕ) : Type 0 where
    pub tree : List (Definition C)
    pub has_tree : HasTree S source tree
    pub gains : Gains tree

  -- Definitions that stand at the front of the source's tokens were added after the others, in order. Where the source
  -- can't be cut into tokens, none were.
  pub record GainsFront (S : Scalars C Error) (source : List ℕ) : Type 0 where
    pub given : List (Definition C)
    pub gains : Gains given
    pub in_front : (lexemes : List Lexeme) → Cut source lexemes → StandInFront S lexemes given
    pub none : (error : LexicalError) (at : Place) → Breaks source error at → given ≡ []

  -- Definitions that stand at the front of the tokens before the last one were added after the others, in order.
  pub record GainsBeforeEnd (S : Scalars C Error) (lexemes : List Lexeme) : Type 0 where
    pub given : List (Definition C)
    pub gains : Gains given
    pub in_front : (inner : List Lexeme) (end : Lexeme) → lexemes ≡ inner ++ end ∷ [] → StandInFront S inner given

  -- What was read was added after the others, unless memory ran out. Nothing is said of what is left.
  abbrev pub GivesAs : {X : Type 0} → Result X ParseFailure → Read (List (Definition C)) → Type 0
  GivesAs (Ok x) read = (tree : List (Definition C)) × (left : List Lexeme) × (read ≡ Ok (tree, left)) × Gains tree
  GivesAs (Err e) read = (left : List Lexeme) × Fails e left read
