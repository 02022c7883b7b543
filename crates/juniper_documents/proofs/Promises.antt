-- From the tokens of a text to the text.
use Rattle.std.proofs.Common.{◌≡◌, ℕ, List, [], ◌∷◌, sym, ap, ap₂, subst, ◌∙◌, Result, Ok, Err, IfOk, IsErrAnd}
use Rattle.std.specs.List.{AllByRecursion}
use Rattle.graphql_lexical.specs.Place.{Place}
use Rattle.graphql_lexical.specs.Kinds.{LexicalError}
use Rattle.graphql_lexical.specs.Cutting.{Lexeme, Cut, Breaks, EndsOnce}
use Rattle.graphql_lexical.proofs.Public.{one_cut_or_break}
use Rattle.graphql_grammar.specs.Tree.{Scalars, Definition}
use Rattle.graphql_grammar.specs.Grammar.{IsDocument}
use Rattle.graphql_grammar.specs.Faults.{DocumentRefusedAt}
use Rattle.graphql_grammar.specs.device.Faults.{DocumentFaultAt}
use Rattle.graphql_grammar.specs.Tokens.{IsSpelled}
use Rattle.graphql_grammar.specs.device.Reading.{Took, Refused, Out, GivesWhole, fully}
use Rattle.graphql_grammar.specs.device.Productions.{reads, document}
use Rattle.graphql_grammar.specs.device.Reading as reading
use Rattle.graphql_grammar.proofs.Public.{document_error, document_given, document_or_refused, one_document, cut_spelled, cut_ends, refused_in_text}
use Rattle.juniper_tokens.specs.declared.error.ParseFailure.{ParseFailure}
use Rattle.juniper_tokens.specs.declared.error.ParseFailure.TheVariants as failure
use Rattle.juniper_tokens.specs.declared.error.LexFailure.{LexFailure}
use Rattle.juniper_tokens.specs.declared.error.LexFailure.TheVariants as lexing
use Rattle.juniper_tokens.specs.declared.error.LexerError.{LexerError}
use Rattle.juniper_tokens.specs.declared.error.ParseError.TheVariants as parse
use Rattle.juniper_tokens.specs.declared.span.Spanning.{Spanning}
use Rattle.juniper_tokens.specs.Errors.{Error, UnexpectedEndOfFile, Fault, Lexical, view_fault, view_lexer_error, failure_of}
use Rattle.juniper_tokens.specs.Cursor.{Read}
use Rattle.juniper_tokens.specs.Lexing.{LexerState, started}
use Rattle.juniper_tokens.specs.Gathering.{IfFault, BreaksOff}
use Rattle.juniper_parser.specs.device.Seen.{seen}
use Rattle.juniper_documents.specs.laws.TreeLaws.{FailsAtBreak, IsRefusedAtBreak}
use Rattle.juniper_parser.specs.Promise.{lexical_fault, unexpected, HasTree, IfRefused, ReturnsAs}
use Rattle.juniper_documents.specs.laws.RefusalClauses.{IsRefusedAt, IsRefusalByClauses, IsRefusalInText}
use Rattle.juniper_parser.specs.device.Steps.{cursor}
use Rattle.juniper_parser.proofs.Public.{seen_took}
use Rattle.juniper_parser.proofs.Public.{document_seen}

-- ---- what is read of tokens that end once

module _ {C : Type 0} (S : Scalars C Error) (ts : List Lexeme) (spelled : AllByRecursion IsSpelled ts)
    (ends : EndsOnce ts) where
  given : GivesWhole (IsDocument S) (DocumentFaultAt S ts) ts (fully (λ n. reads S n document) ts)
  given = document_given S ts spelled ends

  -- a tree is that of a document
  pub document_is : (tree : List (Definition C)) (left : List Lexeme) → cursor S document ts ≡ Ok (tree, left)
      → IsDocument S tree ts
  document_is tree left e =
      let took = seen_took (fully (λ n. reads S n document) ts) tree left (document_seen S ts ∙ e) in
      (subst (λ z. GivesWhole (IsDocument S) (DocumentFaultAt S ts) ts z) took given).0

  fault_is : (a b : Fault) (p q : List Lexeme) → ◌≡◌ {A = Read (List (Definition C))} (Err (a, p)) (Err (b, q)) → b ≡ a
  fault_is a b p q e = let h : (a, p) ≡ (b, q) = cc in sym (ap (λ (x : Fault × List Lexeme). x.0) h)

  by_read : (fault : Fault) (left : List Lexeme) (z : reading.Read Error (List (Definition C)))
      → GivesWhole (IsDocument S) (DocumentFaultAt S ts) ts z → seen z ≡ Err (fault, left) → IsRefusedAt S ts fault
  by_read fault left (Took tree rest) g q = absurd (cc q)
  by_read fault left (Refused [] x) g q = absurd g
  by_read fault left (Refused (t ∷ rest) x) (before, whole, at) q =
      let is = fault_is _ fault _ left q in
      record {
        before = before;
        token = t;
        refused =
            subst (DocumentRefusedAt UnexpectedEndOfFile unexpected S ts before t) (sym (ap (λ (f : Fault). f.error) is))
            (document_error UnexpectedEndOfFile unexpected S ts before t x at);
        span = ap (λ (f : Fault). f.span) is;
      }
  by_read fault left Out g q = absurd g

  -- a fault is that of the grammar
  pub refused_is : (fault : Fault) (left : List Lexeme) → cursor S document ts ≡ Err (fault, left)
      → IsRefusedAt S ts fault
  refused_is fault left e = by_read fault left (fully (λ n. reads S n document) ts) given (document_seen S ts ∙ e)

-- ---- what holds of the tokens of a text holds of the text

module _ {C : Type 0} (S : Scalars C Error) (source : List ℕ) (ts : List Lexeme) (cut : Cut source ts) where
  document_there : (others : List Lexeme) (tree : List (Definition C)) → Cut source others → IsDocument S tree others
      → IsDocument S tree ts
  document_there others tree d h = subst (λ (xs : List Lexeme). IsDocument S tree xs) ((one_cut_or_break source).one_cut others ts d cut)
      h

  pub tree_of : (tree : List (Definition C)) → IsDocument S tree ts → HasTree S source tree
  tree_of tree document = record {
    lexemes = ts;
    cut = cut;
    document = document;
    only = λ others other d h. one_document S ts other tree (document_there others other d h) document;
  }

  pub refusal_at : (fault : Fault) → IsRefusedAt S ts fault → IsRefusalByClauses S source fault
  refusal_at fault at = record {
    no_document = λ others tree d h. document_or_refused S ts at.before tree at.token (cut_spelled source ts cut)
        (document_there others tree d h) at.refused.0;
    lexical = λ error place b. absurd ((one_cut_or_break source).never_both ts error place cut b);
    grammatical = λ others d. subst (λ (xs : List Lexeme). IsRefusedAt S xs fault) ((one_cut_or_break source).one_cut ts others cut d) at;
  }

  pub accepts : {X : Type 0} (view : X → List (Definition C)) (result : Result X ParseFailure)
      → ReturnsAs view result (cursor S document ts) → IfOk result (λ x. HasTree S source (view x))
  accepts view (Ok x) a = tree_of (view x) (document_is S ts (cut_spelled source ts cut) (cut_ends source ts cut)
      (view x) a.0 a.1)
  accepts view (Err e) a = tt

  pub refuses : {X : Type 0} (view : X → List (Definition C)) (result : Result X ParseFailure)
      → ReturnsAs view result (cursor S document ts) → IfRefused result (λ fault. IsRefusalByClauses S source (view_fault fault))
  refuses view (Ok x) a = tt
  refuses view (Err (failure.Refused fault)) a =
      refusal_at (view_fault fault) (refused_is S ts (cut_spelled source ts cut) (cut_ends source ts cut)
      (view_fault fault) a.0 a.1)
  refuses view (Err failure.Memory) a = tt

pub lexical : {C : Type 0} (S : Scalars C Error) (source : List ℕ) (error : LexicalError) (at : Place) (fault : Fault)
    → Breaks source error at → fault ≡ lexical_fault error at → IsRefusalByClauses S source fault
lexical S source error at fault b e = record {
  no_document = λ lexemes tree c d. (one_cut_or_break source).never_both lexemes error at c b;
  lexical = λ other place c. let s = (one_cut_or_break source).one_break error other at place b c in e ∙ ap₂ lexical_fault s.0 s.1;
  grammatical = λ lexemes c. absurd ((one_cut_or_break source).never_both lexemes error at c b);
}

-- a refusal in tokens is one in characters
pub refusal_in_text : {C : Type 0} (S : Scalars C Error) (source : List ℕ) (fault : Fault) → IsRefusalByClauses S source fault
    → IsRefusalInText S source fault
refusal_in_text S source fault h = λ lexemes cut.
    let at = h.grammatical lexemes cut in
    let in_characters = refused_in_text S source lexemes at.before at.token cut at.refused.0 in
    (at, in_characters.0, in_characters.1)

-- a lexer that was just made stands at the beginning
pub break_from_start : (state : LexerState) (source : List ℕ) (error : LexicalError) (at : Place)
    → state ≡ started source → BreaksOff state error at → Breaks source error at
break_from_start state source error at e b = subst (λ (s : LexerState). BreaksOff s error at) e b

-- a lexical fault, as the parser tells it
pub lexical_reported : (fault : Spanning LexerError) → fault.span.end ≡ fault.span.start
    → view_fault (record { item = parse.LexerError fault.item; span = fault.span })
    ≡ lexical_fault (view_lexer_error fault.item) fault.span.start
lexical_reported fault e = ap (λ (end : Place). record {
  error = Lexical (view_lexer_error fault.item);
  span = record { start = fault.span.start; end = end };
}) e

pub break_reported : (source : List ℕ) (failed : LexFailure) → FailsAtBreak source failed
    → IsRefusedAtBreak source (failure_of failed)
break_reported source (lexing.Fault fault) f =
    (view_lexer_error fault.item, fault.span.start, f.breaks, lexical_reported fault f.zero_width)
break_reported source lexing.Memory f = tt

-- What a lexer that was just made failed for is why its text is refused: P is what is promised of a fault.
module _ {Y : Type 0} (X : Type 0) (source : List ℕ) (P : Fault → Type 0)
    (broken : (error : LexicalError) (at : Place) (fault : Fault) → Breaks source error at
    → fault ≡ lexical_fault error at → P fault) where
  pub refused_by_lexer : (state : LexerState) (failed : LexFailure) (result : Result Y ParseFailure)
      → state ≡ started source
      → IfFault {X = X} (Err failed) (λ fault. BreaksOff state (view_lexer_error fault.item)
      fault.span.start) → IfFault {X = X} (Err failed) (λ fault. fault.span.end ≡ fault.span.start)
      → IsErrAnd result (λ e. e ≡ failure_of failed) → IfRefused result (λ fault. P (view_fault fault))
  refused_by_lexer state failed (Ok y) e b z h = tt
  refused_by_lexer state failed (Err x) e b z h =
      subst (λ (y : ParseFailure). IfRefused {X = Y} (Err y) (λ fault. P (view_fault fault))) (sym h)
      (by_failure failed b z)
    where
      by_failure : (f : LexFailure)
          → IfFault {X = X} (Err f) (λ fault. BreaksOff state (view_lexer_error fault.item)
          fault.span.start)
          → IfFault {X = X} (Err f) (λ fault. fault.span.end ≡ fault.span.start)
          → IfRefused {X = Y} (Err (failure_of f)) (λ fault. P (view_fault fault))
      by_failure (lexing.Fault fault) b z = broken _ _ _ (break_from_start state source _ _ e b) (lexical_reported fault z)
      by_failure lexing.Memory b z = tt
