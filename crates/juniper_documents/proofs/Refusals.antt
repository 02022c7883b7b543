-- A refusal by cases is one by clauses, and the other way round.
use Rattle.std.proofs.Common.{ℕ, inl, inr, List, [], ◌∷◌, ◌++◌, refl, sym, ap, subst}
use Rattle.graphql_lexical.specs.Cutting.{Lexeme, Cut}
use Rattle.graphql_lexical.proofs.Public.{one_cut_or_break}
use Rattle.graphql_grammar.specs.Tree.{Scalars}
use Rattle.graphql_grammar.specs.Texts.{BeginsText}
use Rattle.juniper_tokens.specs.Errors.{Error, Fault}
use Rattle.juniper_parser.specs.Promise.{IsRefusal, lexical, grammatical}
use Rattle.juniper_documents.specs.laws.RefusalClauses.{IsRefusedAt, IsRefusalByClauses, IsRefusalInText}
use Rattle.juniper_documents.proofs.Promises.{refusal_at, refusal_in_text}
use Rattle.juniper_documents.proofs.Promises as promise

module _ {C : Type 0} (S : Scalars C Error) (source : List ℕ) where
  of_token : (ts : List Lexeme) → Cut source ts → (fault : Fault) (at : IsRefusedAt S ts fault) → BeginsText S source at.before
      → (BeginsText S source (at.before ++ at.token ∷ []) → ⊥) → IsRefusal S source fault
  of_token ts cut fault at begins ends =
      subst (IsRefusal S source) (ap (λ s. record { error = fault.error; span = s }) (sym at.span))
      (grammatical cut at.refused begins ends)

  pub by_clauses : (fault : Fault) → IsRefusalByClauses S source fault → IsRefusal S source fault
  by_clauses fault h = elim (one_cut_or_break source).some [
    | inl cut ↦ (let t = refusal_in_text S source fault h cut.0 cut.1 in of_token cut.0 cut.1 fault t.0 t.1 t.2)
    | inr break ↦ subst (IsRefusal S source) (sym (h.lexical break.0 break.1 break.2)) (lexical break.2)
  ]

  pub by_cases : (fault : Fault) → IsRefusal S source fault → IsRefusalByClauses S source fault
  by_cases _ (lexical {error} {at} b) = promise.lexical S source error at _ b refl
  by_cases _ (grammatical {ts} {before} {t} {error} cut refused begins ends) =
      refusal_at S source ts cut (record { error = error; span = t.span }) (record {
        before = before;
        token = t;
        refused = refused;
        span = refl;
      })

  -- and it is one in characters
  pub by_cases_in_text : (fault : Fault) → IsRefusal S source fault → IsRefusalInText S source fault
  by_cases_in_text fault h = refusal_in_text S source fault (by_cases fault h)
