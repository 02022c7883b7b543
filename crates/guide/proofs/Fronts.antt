-- From the parser's promise on tokens to the text.
use Rattle.std.proofs.Common.{◌≡◌, ℕ, true, List, Result, Ok, Err, IsErrAnd, sym, subst, ◌∙◌, ap₂}
use Rattle.graphql_lexical.specs.Place.{Place}
use Rattle.graphql_lexical.specs.Kinds.{LexicalError}
use Rattle.graphql_lexical.specs.Cutting.{Lexeme, Cut, Breaks}
use Rattle.graphql_lexical.specs.laws.Laws.{HasOneCutOrBreak}
use Rattle.graphql_grammar.specs.Tokens.{Located}
use Rattle.graphql_grammar.specs.Tree.{Scalars, Value}
use Rattle.graphql_grammar.specs.Grammar.{IsLocated, IsValue}
use Rattle.graphql_grammar.specs.Faults.{ValueRefusedAt}
use Rattle.juniper_tokens.specs.declared.error.ParseFailure.{ParseFailure}
use Rattle.juniper_tokens.specs.declared.error.ParseFailure.TheVariants as failure
use Rattle.juniper_tokens.specs.declared.error.LexFailure.{LexFailure}
use Rattle.juniper_tokens.specs.Errors.{Error, UnexpectedEndOfFile, Fault, view_fault, failure_of}
use Rattle.juniper_documents.specs.laws.TreeLaws.{IsRefusedAtBreak}
use Rattle.juniper_parser.specs.Promise.{lexical_fault, unexpected, Refuses, IfRefused, ReturnsValue}
use Rattle.guide.specs.Literals.{HasNoValue}

module _ {C : Type 0} (S : Scalars C Error) (source : List ℕ) (ends : HasOneCutOrBreak source) where
  module _ (ts left : List Lexeme) (cut : Cut source ts) where
    refused : (fault : Fault)
        → Refuses (IsLocated (IsValue S true)) (ValueRefusedAt UnexpectedEndOfFile unexpected S true) fault ts left
        → HasNoValue S source fault
    refused fault r = record {
      none = λ value b. r.none b.front b.left value (ends.one_cut ts b.lexemes cut b.cut ∙ b.whole) b.means;
      lexical = λ error at b. absurd (ends.never_both ts error at cut b);
      grammatical = λ others d. subst (λ (xs : List Lexeme). (rest : List Lexeme)
          × Refuses (IsLocated (IsValue S true)) (ValueRefusedAt UnexpectedEndOfFile unexpected S true) fault xs rest)
          (ends.one_cut ts others cut d) (left, r);
    }

    -- what is refused of the tokens is refused of the text
    pub no_value_begins : {X : Type 0} (view : X → Located (Value C)) (result : Result X ParseFailure)
        → ReturnsValue S true view result ts left → IfRefused result (λ fault. HasNoValue S source (view_fault fault))
    no_value_begins view (Ok x) a = tt
    no_value_begins view (Err (failure.Refused fault)) a = refused (view_fault fault) a
    no_value_begins view (Err failure.Memory) a = tt

  -- a text that breaks begins with no value
  broken : (error : LexicalError) (at : Place) (fault : Fault) → Breaks source error at
      → fault ≡ lexical_fault error at → HasNoValue S source fault
  broken error at fault b e = record {
    none = λ value begun. ends.never_both begun.lexemes error at begun.cut b;
    lexical = λ other place c. let s = ends.one_break error other at place b c in e ∙ ap₂ lexical_fault s.0 s.1;
    grammatical = λ lexemes c. absurd (ends.never_both lexemes error at c b);
  }

  -- what the lexer failed for is why the text begins with no value
  pub refused_by_lexer : {Y : Type 0} (result : Result Y ParseFailure) (failed : LexFailure)
      → IsErrAnd result (λ e. e ≡ failure_of failed)
      → IsRefusedAtBreak source (failure_of failed) → IfRefused result (λ fault. HasNoValue S source (view_fault fault))
  refused_by_lexer (Ok y) failed h b = tt
  refused_by_lexer {Y = Y} (Err e) failed h b = by_failure e (subst (IsRefusedAtBreak source) (sym h) b)
    where
      by_failure : (e : ParseFailure) → IsRefusedAtBreak source e
          → IfRefused {X = Y} (Err e) (λ fault. HasNoValue S source (view_fault fault))
      by_failure (failure.Refused fault) b = broken b.0 b.1 (view_fault fault) b.2 b.3
      by_failure failure.Memory b = tt
