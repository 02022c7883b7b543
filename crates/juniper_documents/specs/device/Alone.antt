-- A device: what was made of tokens that are to be a literal and then the end.
use Rattle.std.specs.Prelude.{◌≡◌, List, Result, Ok, Err}
use Rattle.graphql_lexical.specs.Cutting.{Lexeme}
use Rattle.graphql_grammar.specs.Faults.{AtFault}
use Rattle.juniper_tokens.specs.declared.error.ParseFailure.{ParseFailure}
use Rattle.juniper_tokens.specs.declared.error.ParseFailure.TheVariants as failure
use Rattle.juniper_tokens.specs.Errors.{Error, Fault, view_fault}
use Rattle.juniper_documents.specs.Literals.{IsAlone, BeginsAlone}

module _ {A : Type 0} (R : A → List Lexeme → Type 0) (Names : List Lexeme → Lexeme → Error → Type 0) where
  -- The tokens are no literal and the end, and this is the error at the token where they are refused.
  pub record Refused (ts : List Lexeme) (fault : Fault) : Type 0 where
    pub before : List Lexeme
    pub token : Lexeme
    pub at : AtFault (BeginsAlone R) ts before token
    pub names : Names before token fault.error
    pub span : fault.span ≡ token.span

  -- What was made of tokens that are a literal and the end, or why they aren't; nothing is said if memory ran out.
  abbrev pub Answers : {X : Type 0} → (X → A → Type 0) → Result X ParseFailure → List Lexeme → Type 0
  Answers built (Ok x) ts = (literal : A) × built x literal × IsAlone R literal ts
  Answers built (Err (failure.Refused fault)) ts = Refused ts (view_fault fault)
  Answers built (Err failure.Memory) ts = Unit {0}
