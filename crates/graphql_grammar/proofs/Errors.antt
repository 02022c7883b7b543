-- The error of a refused token: as the definitions name it, and as a reader gives it.
use Rattle.std.proofs.Common.{Bool, ◌≡◌, List, refl, sym, ap, ap₂, ◌∙◌, subst, ◌⊎◌, inl, inr}
use Rattle.std.specs.List.{AllByRecursion, AllZip}
use Rattle.graphql_lexical.specs.declared.kind.Kind.{Kind}
use Rattle.graphql_lexical.specs.Cutting.{Lexeme, EndsOnce}
use Rattle.graphql_lexical.specs.laws.Alike.{Alike}
use Rattle.graphql_grammar.specs.Tokens.{Text, IsSpelled}
use Rattle.graphql_grammar.specs.Tree.{Scalars, Definition}
use Rattle.graphql_grammar.specs.Grammar.{IsValue, IsType, IsDocument, IsLocated}
use Rattle.graphql_grammar.specs.Faults.{Begins, BeginsValue, BeginsType, DocumentRefusedAt, ValueRefusedAt, TypeError, TypeRefusedAt}
use Rattle.graphql_grammar.specs.device.AlikeFaults.{AnyToken, NamedErrorAlike, end, own, other}
use Rattle.graphql_grammar.specs.device.Faults.{Fault, UnexpectedEndOfFile, UnexpectedToken, ScalarError, as_error, NamesFault, DocumentFaultAt, ValueFaultAt, TypeFault, TypeFaultAt}
use Rattle.graphql_grammar.proofs.Begun.{fault_from_alike, error_from_alike, alike_from_error, to_begins, from_begins, document_at_fault, alike_document_at_fault, value_to_begins, value_from_begins, type_to_begins, type_from_begins}
use Rattle.graphql_grammar.proofs.OneFault.{document_or_fault, one_document_refusal, document_refusal_alike}

module _ {F : Type 0} (at_end : F) (unexpected : Kind → Text → F) where
  abbrev error : Fault F → F
  error = as_error at_end unexpected

  module _ {C A : Type 0} (Allowed : Lexeme → Type 0) (S : Scalars C F) (R : A → List Lexeme → Type 0)
      (before : List Lexeme) (t : Lexeme) where
    named : (e : Fault F) → NamesFault Allowed S R before t e
        → NamedErrorAlike at_end unexpected Allowed S R before t (error e)
    named UnexpectedEndOfFile h = end h
    named (ScalarError x) h = own h.0 h.1 h.2
    named (UnexpectedToken kind text) h =
        subst (NamedErrorAlike at_end unexpected Allowed S R before t) (ap₂ unexpected (sym h.0) (sym h.1)) (other h.2 h.3)

    unnamed : (x : F) → NamedErrorAlike at_end unexpected Allowed S R before t x
        → (e : Fault F) × NamesFault Allowed S R before t e × (x ≡ error e)
    unnamed _ (end h) = (UnexpectedEndOfFile, h, refl)
    unnamed _ (own {error = x} s r v) = (ScalarError x, (s, r, v), refl)
    unnamed _ (other n o) = (UnexpectedToken t.kind t.text, (refl, refl, n, o), refl)

  pub type_error : (ts before : List Lexeme) (t : Lexeme) (e : Fault F) → TypeFaultAt ts before t e
      → TypeRefusedAt at_end unexpected ts before t (error e)
  type_error ts before t e h =
      (fault_from_alike AnyToken IsType BeginsType type_from_begins type_to_begins ts before t h.0, by_fault e h.1)
    where
      by_fault : (e : Fault F) → TypeFault t e → TypeError at_end unexpected t (error e)
      by_fault UnexpectedEndOfFile k = inl (k, refl)
      by_fault (UnexpectedToken kind text) k = inr (k.2, ap₂ unexpected k.0 k.1)
      by_fault (ScalarError x) k = absurd k

  module _ {C : Type 0} (S : Scalars C F) where
    pub value_error : (free : Bool) (ts before : List Lexeme) (t : Lexeme) (e : Fault F)
        → ValueFaultAt S free ts before t e → ValueRefusedAt at_end unexpected S free ts before t (error e)
    value_error free ts before t e h =
        let R = IsLocated (IsValue S free) in
        let to = value_from_begins S free in
        let from = value_to_begins S free in (
          fault_from_alike AnyToken R (BeginsValue S free) to from ts before t h.0,
          error_from_alike AnyToken R (BeginsValue S free) to from at_end unexpected S before t (error e) (named AnyToken S R before t e h.1),
        )

    pub document_error : (ts before : List Lexeme) (t : Lexeme) (e : Fault F) → DocumentFaultAt S ts before t e
        → DocumentRefusedAt at_end unexpected S ts before t (error e)
    document_error ts before t e h = (
      document_at_fault S ts before t h.0,
      error_from_alike IsSpelled (IsDocument S) (Begins S) (from_begins S) (to_begins S) at_end unexpected S before t (error e)
          (named IsSpelled S (IsDocument S) before t e h.1),
    )

    pub document_fault : (ts before : List Lexeme) (t : Lexeme) (x : F)
        → DocumentRefusedAt at_end unexpected S ts before t x
        → (e : Fault F) × DocumentFaultAt S ts before t e × (x ≡ error e)
    document_fault ts before t x h =
        let alike = alike_from_error IsSpelled (IsDocument S) (Begins S) (from_begins S) (to_begins S) at_end unexpected S before t x h.1 in
        let f = unnamed IsSpelled S (IsDocument S) before t x alike in
        (f.0, (alike_document_at_fault S ts before t h.0, f.1), f.2)

    pub document_or_error : (ts : List Lexeme) → AllByRecursion IsSpelled ts → EndsOnce ts
        → ((ds : List (Definition C)) × IsDocument S ds ts)
        ⊎ ((before : List Lexeme) × (t : Lexeme) × (x : F) × DocumentRefusedAt at_end unexpected S ts before t x)
    document_or_error ts spelled ends = elim (document_or_fault S ts spelled ends) [
      | inl d ↦ inl d
      | inr (before, t, e, h) ↦ inr (before, t, error e, document_error ts before t e h)
    ]

    pub one_document_error : (ts us vs : List Lexeme) (t u : Lexeme) (x y : F)
        → DocumentRefusedAt at_end unexpected S ts us t x → DocumentRefusedAt at_end unexpected S ts vs u y
        → (us ≡ vs) × (t ≡ u) × (x ≡ y)
    one_document_error ts us vs t u x y h k =
        let e = document_fault ts us t x h in
        let d = document_fault ts vs u y k in
        let same = one_document_refusal S ts us vs t u e.0 d.0 e.1 d.1 in
        (same.0, same.1, e.2 ∙ ap error same.2 ∙ sym d.2)

    pub document_error_alike : (ts us before : List Lexeme) (t : Lexeme) (x : F) → AllZip Alike ts us
        → DocumentRefusedAt at_end unexpected S ts before t x
        → (front : List Lexeme) × (u : Lexeme) × AllZip Alike before front × Alike t u
        × DocumentRefusedAt at_end unexpected S us front u x
    document_error_alike ts us before t x p h =
        let e = document_fault ts before t x h in
        let r = document_refusal_alike S ts us before t e.0 p e.1 in (
          r.0,
          r.1,
          r.2,
          r.3,
          subst (DocumentRefusedAt at_end unexpected S us r.0 r.1) (sym e.2) (document_error us r.0 r.1 e.0 r.4),
        )
