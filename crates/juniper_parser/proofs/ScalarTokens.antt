-- A scalar token, as a reader of the grammar and as a cursor: what both answer.
use Rattle.std.proofs.Common.{◌≡◌, Bool, true, false, List, [], ◌∷◌, Result, Ok, Err, refl, sym, ap, ◌∙◌}
use Rattle.graphql_lexical.specs.declared.kind.Kind.TheVariants.{EndOfFile}
use Rattle.graphql_lexical.specs.Kinds.{same_kind}
use Rattle.graphql_lexical.specs.Cutting.{Lexeme}
use Rattle.graphql_grammar.specs.Tree.{Scalars}
use Rattle.graphql_grammar.specs.device.Reading.{passes, scalar_token, refuse, fault_of, literal, read_as}
use Rattle.graphql_grammar.proofs.Public.{of_kind}
use Rattle.juniper_tokens.specs.Errors.{Error}
use Rattle.juniper_parser.specs.device.Seen.{seen}
use Rattle.juniper_parser.specs.Promise.{past}
use Rattle.juniper_parser.specs.device.Steps.{read_here, scalar_read}

module _ {C : Type 0} (S : Scalars C Error) where
  token_seen : (t : Lexeme) (ts : List Lexeme) (z : Result C Error) → past (t ∷ ts) ≡ ts
      → seen (read_as t ts z) ≡ read_here z t.span ts
  token_seen t ts (Ok c) e = refl
  token_seen t ts (Err x) e = ap (λ (us : List Lexeme). Err (record { error = x; span = t.span }, us)) e

  pub scalar_seen : (ts : List Lexeme) → seen (literal S ts) ≡ scalar_read S ts
  unfolding literal scalar_read refuse fault_of
  scalar_seen [] = refl
  scalar_seen (t ∷ ts) = by_tests (passes scalar_token t) (same_kind t.kind EndOfFile) refl refl
    where
      by_tests : (b e : Bool) → passes scalar_token t ≡ b → same_kind t.kind EndOfFile ≡ e
          → seen (literal S (t ∷ ts)) ≡ scalar_read S (t ∷ ts)
      by_tests true true p q =
          let z : false ≡ true = sym (ap (λ k. scalar_token k t.text) (of_kind EndOfFile t q)) ∙ p in absurd (cc z)
      by_tests true false p q = rw (p, q, p) (token_seen t ts (S.read t.kind t.text) (rw q refl))
      by_tests false true p q = rw (p, q) refl
      by_tests false false p q = rw (p, q, p) refl
