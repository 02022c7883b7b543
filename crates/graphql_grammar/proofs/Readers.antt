-- The readers of values, types and documents read what the grammar says.
use Rattle.std.proofs.Common.{ℕ, Bool, ◌≡◌, ◌+◌, [], List, ◌++◌, length, refl, sym, ap, ◌∙◌, arith, append-nil, le_refl, length-append, Ok}
use Rattle.graphql_lexical.specs.Cutting.{Lexeme}
use Rattle.graphql_grammar.specs.Tokens.{Located, span_of}
use Rattle.graphql_grammar.specs.Tree.{Scalars, Value, TypeRef, Definition}
use Rattle.graphql_grammar.specs.Grammar.{IsValue, IsType, IsDocument, IsLocated}
use Rattle.graphql_grammar.specs.device.Reading.{Read, Took, Refused, Out, a_value, a_type}
use Rattle.graphql_grammar.specs.device.Productions.{document, symbol_at, reads}
use Rattle.graphql_grammar.proofs.Values.{value_rule, placed}
use Rattle.graphql_grammar.proofs.Found.{value_found}
use Rattle.graphql_grammar.proofs.DocumentRules.{IsSpannedType, type_rule}
use Rattle.graphql_grammar.proofs.DocumentFound.{type_found}
use Rattle.graphql_grammar.proofs.SelectionRules.{document_rule}
use Rattle.graphql_grammar.proofs.SelectionFound.{document_found}
use Rattle.graphql_grammar.proofs.Faulty.{Reads, one_tree}

-- a scalar type that refuses nothing: the reading of a type asks none
unfoldable pub every_scalar : (F : Type 0) → Scalars (Unit {0}) F
every_scalar F = record { read = λ kind text. Ok tt; of_bool = λ b. tt }

pub type_reads : {C F : Type 0} (S : Scalars C F) → Reads (λ n. symbol_at S n _ a_type) IsSpannedType
type_reads S = record {
  keeps = type_rule S;
  finds = λ n ts x le h. ap (symbol_at S n _ a_type) (sym (append-nil ts))
      ∙ type_found S n ts [] x.item x.span (omega arith) h.0 h.1 tt;
}

-- No list has two types.
pub one_type : (ts : List Lexeme) (a b : TypeRef) → IsType a ts → IsType b ts → a ≡ b
one_type ts a b h k = ap (λ (x : Located TypeRef). x.item) (one_tree (λ n. symbol_at (every_scalar (Unit {0})) n _ a_type) IsSpannedType
    (type_reads (every_scalar (Unit {0}))) ts (record { item = a; span = span_of ts }) (record { item = b; span = span_of ts }) (h, refl) (k, refl))

module _ {C F : Type 0} (S : Scalars C F) where
  pub value_reads : (free : Bool) → Reads (λ n. symbol_at S n _ (a_value free)) (IsLocated (IsValue S free))
  value_reads free = record {
    keeps = value_rule S free;
    finds = λ n ts v le h. ap (symbol_at S n _ (a_value free)) (sym (append-nil ts))
        ∙ value_found S free n ts [] v (omega arith) h;
  }

  pub document_reads : Reads (λ n. reads S n document) (IsDocument S)
  document_reads = record { keeps = document_rule S; finds = document_found S }

  -- No list has two trees.
  pub one_document : (ts : List Lexeme) (a b : List (Definition C)) → IsDocument S a ts → IsDocument S b ts → a ≡ b
  one_document = one_tree (λ n. reads S n document) (IsDocument S) document_reads

  pub one_value : (free : Bool) (ts : List Lexeme) (a b : Value C) → IsValue S free a ts → IsValue S free b ts → a ≡ b
  one_value free ts a b h k = ap (λ (x : Located (Value C)). x.item)
      (one_tree (λ n. symbol_at S n _ (a_value free)) (IsLocated (IsValue S free)) (value_reads free) ts
      (placed a (span_of ts)) (placed b (span_of ts)) (h, refl) (k, refl))

  took_rest : {A : Type 0} → List Lexeme → Read F A → List Lexeme
  took_rest d (Took a rest) = rest
  took_rest d (Refused rest e) = d
  took_rest d Out = d

  -- No value's tokens are a proper front of another's.
  pub value_front : (free : Bool) (us vs : List Lexeme) (v w : Value C) → IsValue S free v us
      → IsValue S free w (us ++ vs) → vs ≡ []
  unfolding took_rest
  value_front free us vs v w h k =
      let n : ℕ = length us + length vs in
      ap (took_rest []) (sym (value_found S free n us vs (placed v (span_of us)) (omega arith) (h, refl))
      ∙ ap (symbol_at S n _ (a_value free)) (sym (append-nil (us ++ vs)))
      ∙ value_found S free n (us ++ vs) [] (placed w (span_of (us ++ vs)))
      (rw (length-append us vs) (le_refl n)) (k, refl))
