-- What readers give on a list that ends in its one end.
use Rattle.std.proofs.Common.{ℕ, suc, Bool, ◌≡◌, ◌≤◌, ◌<◌, ◌∷◌, [], List, ◌++◌, length, refl, sym, ap, ◌∙◌, arith, append_assoc, append-nil, subst, length-append, inl, inr, le_refl, Bool, true, false, cond, ◌+◌}
use Rattle.std.proofs.lemmas.List.{append_cancel_right}
use Rattle.std.specs.List.{AllByRecursion}
use Rattle.graphql_lexical.specs.declared.kind.Kind.{Kind}
use Rattle.graphql_lexical.specs.declared.kind.Kind.TheVariants.{EndOfFile}
use Rattle.graphql_lexical.specs.Cutting.{Lexeme, EndsOnce}
use Rattle.graphql_grammar.specs.Tokens.{IsSpelled, span_of}
use Rattle.graphql_grammar.specs.Tree.{Scalars}
use Rattle.graphql_grammar.specs.Grammar.{IsValue, IsType, IsDocument, IsLocated}
use Rattle.graphql_grammar.specs.device.AlikeFaults.{AnyToken, BeginsAlike, AtFaultAlike}
use Rattle.graphql_grammar.specs.device.Faults.{Fault, UnexpectedEndOfFile, UnexpectedToken, DocumentFaultAt, ValueFaultAt, TypeFaultAt, TypeFault}
use Rattle.graphql_grammar.specs.device.Reading.{of, Read, Took, Refused, Out, Reader, fault_of, a_value, a_type, fully, GivesWhole, GivesFront}
use Rattle.graphql_grammar.specs.device.Productions.{document, symbol_at, reads}
use Rattle.graphql_grammar.proofs.EndParts.{NoEnd, EndParts, end_parts}
use Rattle.graphql_grammar.proofs.Elements.{all_front, all_each}
use Rattle.graphql_grammar.proofs.TokenTests.{of_kind}
use Rattle.graphql_grammar.proofs.Rules.{Meets}
use Rattle.graphql_grammar.proofs.Found.{value_found}
use Rattle.graphql_grammar.proofs.DocumentRules.{IsSpannedType}
use Rattle.graphql_grammar.proofs.Ends.{values, types, document_ends}
use Rattle.graphql_grammar.proofs.Faulty.{Reads, cut_front, at_fault}
use Rattle.graphql_grammar.proofs.ScalarFaults.{TellsFault}
use Rattle.graphql_grammar.proofs.DocumentFaults.{value_tells, type_tells, document_tells}
use Rattle.graphql_grammar.proofs.Readers.{every_scalar, value_reads, type_reads, document_reads}
use Rattle.graphql_grammar.proofs.Named.{refused_at}
use Rattle.graphql_grammar.proofs.Spelling.{sample_spelled}
use Rattle.graphql_grammar.proofs.DocumentFound.{type_covers}

module _ {F A : Type 0} (f : ℕ → Reader F A) (R : A → List Lexeme → Type 0) (r : Reads f R)
    (Refuses : List Lexeme → Lexeme → Fault F → Type 0) (ts : List Lexeme) (ends : EndParts ts)
    (refused : (rest : List Lexeme) (t : Lexeme) (e : Fault F) → f (suc (length ts)) ts ≡ Refused (t ∷ rest) e
    → (before : List Lexeme) × (ts ≡ before ++ (t ∷ rest)) × Refuses before t e) where
  n : ℕ
  n = suc (length ts)

  meets : (z : Read F A) → f n ts ≡ z → Meets n R (f n) ts z
  meets z e = subst (λ y. Meets n R (f n) ts y) e ((r.keeps n n (le_refl n)).at ts)

  never_out : f n ts ≡ Out → ⊥
  unfolding n
  never_out e = absurd (omega (arith, (meets Out e).0))

  module _ (ended : (us : List Lexeme) (a : A) → R a us → EndParts us) where
    by_whole : (z : Read F A) → f n ts ≡ z → Meets n R (f n) ts z → GivesWhole R Refuses ts z
    unfolding n
    by_whole (Took a rest) e (us, p, h, s) =
        let none : rest ≡ [] = cut_front us rest (ended us a h) (subst EndParts p ends) in
        (subst (λ l. R a l) (sym (p ∙ ap (λ l. us ++ l) none ∙ append-nil us)) h, none)
    by_whole (Refused [] x) e (us, p, (more, a, h, w), s, y) =
        let q : ts ≡ us = p ∙ append-nil us in
        let m : more ≡ [] = cut_front us more (subst EndParts q ends) (ended _ a h) in
        let whole : R a ts = subst (λ l. R a l) (ap (λ l. us ++ l) m ∙ append-nil us ∙ sym q) h in
        let took = sym (r.finds n ts a (omega arith) whole) ∙ e in
        absurd (cc took)
    by_whole (Refused (t ∷ rest) x) e m = refused rest t x e
    by_whole Out e m = absurd (never_out e)

    pub whole_given : GivesWhole R Refuses ts (fully f ts)
    unfolding fully n
    whole_given = by_whole (f n ts) refl (meets (f n ts) refl)

  ended_has : (us : List Lexeme) (end : Lexeme) → end.kind ≡ EndOfFile → NoEnd (us ++ (end ∷ [])) → ⊥
  ended_has [] end e h = absurd (h.0 e)
  ended_has (t ∷ us) end e h = ended_has us end e h.1

  module _ (inner : (us : List Lexeme) (a : A) → R a us → NoEnd us)
      (covers : (us vs : List Lexeme) (b : A) → R b us → (m : ℕ) → length (us ++ vs) < m
      → (a : A) × (more rest : List Lexeme) × (f m (us ++ vs) ≡ Took a rest) × (vs ≡ more ++ rest)) where
    covered : (us vs : List Lexeme) (b : A) → ts ≡ us ++ vs → R b us
        → (a : A) × (more rest : List Lexeme) × (f n ts ≡ Took a rest) × (vs ≡ more ++ rest)
    unfolding n
    covered us vs b e h = let c = covers us vs b h (suc (length ts)) (rw e (omega arith)) in
        (c.0, c.1, c.2, ap (f (suc (length ts))) e ∙ c.3, c.4)

    longest : (front rest us vs : List Lexeme) (a b : A) → f n ts ≡ Took a rest → ts ≡ front ++ rest → ts ≡ us ++ vs
        → R b us → length us ≤ length front
    longest front rest us vs a b e p q h =
        let c = covered us vs b q h in
        let both : Took a rest ≡ Took c.0 c.2 = sym e ∙ c.3 in
        let same : rest ≡ c.2 = cc in
        let whole : front ++ c.2 ≡ (us ++ c.1) ++ c.2 = ap (λ l. front ++ l) (sym same) ∙ sym p ∙ q
        ∙ ap (λ l. us ++ l) c.4 ∙ sym (append_assoc us c.1 c.2) in
        let l : length front ≡ length us + length c.1 = ap length (append_cancel_right front (us ++ c.1) c.2 whole)
        ∙ length-append us c.1 in
        omega arith

    none : (t : Lexeme) (rest us vs : List Lexeme) (x : Fault F) (b : A) → f n ts ≡ Refused (t ∷ rest) x → ts ≡ us ++ vs
        → R b us → ⊥
    none t rest us vs x b e q h = let c = covered us vs b q h in let both = sym e ∙ c.3 in absurd (cc both)

    by_front : (z : Read F A) → f n ts ≡ z → Meets n R (f n) ts z → GivesFront R Refuses ts z
    unfolding n
    by_front (Took a rest) e (us, p, h, s) = (us, p, h, λ vs ws b q k. longest us rest vs ws a b e p q k)
    by_front (Refused [] x) e (us, p, (more, a, h, w), s, y) =
        let q : us ≡ ends.inner ++ (ends.end ∷ []) = sym (append-nil us) ∙ sym p ∙ ends.whole in
        absurd (ended_has ends.inner ends.end ends.is_end
        (subst NoEnd q (all_front (λ (t : Lexeme). t.kind ≡ EndOfFile → ⊥) us more (inner (us ++ more) a h))))
    by_front (Refused (t ∷ rest) x) e m = ((λ us vs b q h. none t rest us vs x b e q h), refused rest t x e)
    by_front Out e m = absurd (never_out e)

    pub front_given : GivesFront R Refuses ts (fully f ts)
    unfolding fully n
    front_given = by_front (f n ts) refl (meets (f n ts) refl)

any_allowed : (ts : List Lexeme) → AllByRecursion AnyToken ts
any_allowed ts = all_each AnyToken (λ t. tt) ts

module _ {C F : Type 0} (S : Scalars C F) where
  pub document_given : (ts : List Lexeme) → AllByRecursion IsSpelled ts → EndsOnce ts
      → GivesWhole (IsDocument S) (DocumentFaultAt S ts) ts (fully (λ n. reads S n document) ts)
  document_given ts spelled ends = whole_given (λ n. reads S n document) (IsDocument S) (document_reads S)
      (DocumentFaultAt S ts) ts (end_parts ts ends)
      (λ rest t e. refused_at S (λ n. reads S n document) (IsDocument S) (document_reads S) true (document_tells S)
      IsSpelled sample_spelled (suc (length ts)) ts rest t e spelled) (document_ends S)

  pub value_given : (free : Bool) (ts : List Lexeme) → EndsOnce ts
      → GivesFront (IsLocated (IsValue S free)) (ValueFaultAt S free ts) ts
      (fully (λ n. symbol_at S n _ (a_value free)) ts)
  value_given free ts ends =
      front_given (λ n. symbol_at S n _ (a_value free)) (IsLocated (IsValue S free)) (value_reads S free)
      (ValueFaultAt S free ts) ts (end_parts ts ends)
      (λ rest t e. refused_at S (λ n. symbol_at S n _ (a_value free)) (IsLocated (IsValue S free)) (value_reads S free)
      true (value_tells S free) AnyToken (λ u h. tt) (suc (length ts)) ts rest t e (any_allowed ts))
      (values S free) (λ us vs v h m le. (
        v,
        [],
        vs,
        value_found S free m us vs v
            (let l = length-append us vs in omega (arith, l)) h,
        refl,
      ))

-- ---- types

type_error : (F : Type 0) (t : Lexeme) (b : Bool) → of EndOfFile t.kind t.text ≡ b
    → TypeFault {F = F} t (cond b UnexpectedEndOfFile (UnexpectedToken t.kind t.text))
type_error F t true e = of_kind EndOfFile t e
type_error F t false e = (
  refl,
  refl,
  λ k. let same : of EndOfFile t.kind t.text
      ≡ true = ap (λ (z : Kind). of EndOfFile z t.text) k in absurd (cc (sym e ∙ same)),
)

-- A type begins so, with its span or without.
bare_begins : (ts : List Lexeme) → BeginsAlike AnyToken IsSpannedType ts → BeginsAlike AnyToken IsType ts
bare_begins ts (front, more, x, a, h, al) = (front, more, x.item, a, h.0, al)

spanned_begins : (ts : List Lexeme) → BeginsAlike AnyToken IsType ts → BeginsAlike AnyToken IsSpannedType ts
spanned_begins ts (front, more, x, a, h, al) = (front, more, record { item = x; span = span_of (front ++ more) }, a, (h, refl), al)

bare_fault : (ts before : List Lexeme) (t : Lexeme) → AtFaultAlike AnyToken IsSpannedType ts before t
    → AtFaultAlike AnyToken IsType ts before t
bare_fault ts before t h = record {
  after = h.after;
  whole = h.whole;
  begins = bare_begins before h.begins;
  ends = λ b. h.ends (spanned_begins (before ++ t ∷ []) b);
}

module _ {C F : Type 0} (S : Scalars C F) where
  type_refused : (ts rest : List Lexeme) (t : Lexeme) (e : Fault F)
      → symbol_at S (suc (length ts)) _ a_type ts ≡ Refused (t ∷ rest) e
      → (us : List Lexeme) × (ts ≡ us ++ (t ∷ rest)) × TypeFaultAt ts us t e
  unfolding every_scalar fault_of
  type_refused ts rest t e p = by_tell
      (subst (λ z. TellsFault (every_scalar F) false (symbol_at S (suc (length ts)) _ a_type) ts z) p
      ((type_tells (every_scalar F) S (suc (length ts))).at ts))
    where
      by_tell : TellsFault (every_scalar F) false (symbol_at S (suc (length ts)) _ a_type) ts (Refused (t ∷ rest) e)
          → (us : List Lexeme) × (ts ≡ us ++ (t ∷ rest)) × TypeFaultAt ts us t e
      by_tell (us, q, inl (y, x, s, d)) = absurd (cc d)
      by_tell (us, q, inr o) =
          let a = at_fault (λ n. symbol_at S n _ a_type) IsSpannedType (type_reads S) AnyToken (λ u h. tt)
          (suc (length ts)) ts rest t e (any_allowed ts) p in (
            a.0,
            a.1,
            (bare_fault ts a.0 t a.2, rw o.0 (type_error F t (of EndOfFile t.kind t.text) refl)),
          )

  pub type_given : (ts : List Lexeme) → EndsOnce ts
      → GivesFront IsSpannedType (TypeFaultAt ts) ts (fully (λ n. symbol_at S n _ a_type) ts)
  type_given ts ends = front_given (λ n. symbol_at S n _ a_type) IsSpannedType (type_reads S) (TypeFaultAt ts) ts (end_parts ts ends)
      (type_refused ts) (λ us x h. types us x.item h.0) (λ us vs x h n le. type_covers S us vs x.item h.0 n le)
