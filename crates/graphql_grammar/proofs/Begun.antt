-- What is begun, by tokens after it and by lists that are alike with it: the same, both ways.
use Rattle.std.proofs.Common.{Bool, ◌≡◌, ◌⊎◌, inl, inr, List, [], ◌∷◌, ◌++◌, subst, sym, refl}
use Rattle.std.specs.List.{AllByRecursion, AllZip}
use Rattle.graphql_lexical.specs.declared.kind.Kind.{Kind}
use Rattle.graphql_lexical.specs.declared.kind.Kind.TheVariants.{EndOfFile}
use Rattle.graphql_lexical.specs.Tokens.{Spells}
use Rattle.graphql_lexical.specs.Cutting.{Lexeme, Cut}
use Rattle.graphql_lexical.specs.laws.Alike.{Alike}
use Rattle.graphql_grammar.specs.Tokens.{Text, IsSpelled, span_of}
use Rattle.graphql_grammar.specs.Tree.{Scalars, Definition, TypeRef}
use Rattle.graphql_grammar.specs.Grammar.{IsDocument, IsValue, IsType, IsLocated}
use Rattle.graphql_grammar.specs.Faults.{Begins, BeginsValue, BeginsType, AtFault, ValueMayStand, NamedError}
use Rattle.graphql_grammar.specs.Faults as form
use Rattle.graphql_grammar.specs.device.AlikeFaults.{AnyToken, BeginsAlike, AtFaultAlike, ValueMayStandAlike, NamedErrorAlike}
use Rattle.graphql_grammar.specs.device.AlikeFaults as now
use Rattle.graphql_grammar.proofs.Elements.{all_each}
use Rattle.graphql_grammar.proofs.Rules.{alike_refl}
use Rattle.graphql_grammar.proofs.Alike.{alike_sym, alike_join}
use Rattle.graphql_grammar.proofs.OneFault.{whole_alike, document_alike, value_alike, never_both}
use Rattle.graphql_grammar.proofs.Texts.{fault_in_text}
use Rattle.graphql_grammar.specs.Texts.{BeginsText}
use Rattle.graphql_grammar.proofs.Readers.{every_scalar, type_reads}
use Rattle.graphql_grammar.specs.device.Reading.{a_type}
use Rattle.graphql_grammar.specs.device.Productions.{symbol_at}

-- ---- whatever is begun

module _ {A : Type 0} (Allowed : Lexeme → Type 0) (R : A → List Lexeme → Type 0) (Begun : List Lexeme → Type 0)
    (to : (ts : List Lexeme) → BeginsAlike Allowed R ts → Begun ts) (from : (ts : List Lexeme) → Begun ts → BeginsAlike Allowed R ts) where
  pub fault_from_alike : (ts before : List Lexeme) (t : Lexeme) → AtFaultAlike Allowed R ts before t → AtFault Begun ts before t
  fault_from_alike ts before t h = record {
    after = h.after;
    whole = h.whole;
    begins = to before h.begins;
    ends = λ x. h.ends (from (before ++ t ∷ []) x);
  }

  pub alike_from_fault : (ts before : List Lexeme) (t : Lexeme) → AtFault Begun ts before t → AtFaultAlike Allowed R ts before t
  alike_from_fault ts before t h = record {
    after = h.after;
    whole = h.whole;
    begins = from before h.begins;
    ends = λ x. h.ends (to (before ++ t ∷ []) x);
  }

  pub stand_from_alike : (before : List Lexeme) → ValueMayStandAlike Allowed R before → ValueMayStand Begun before
  stand_from_alike before v = record {
    null = λ span. to _ (v span _ (inl refl));
    list = λ span. to _ (v span _ (inr (inl refl)));
    object = λ span. to _ (v span _ (inr (inr refl)));
  }

  pub alike_from_stand : (before : List Lexeme) → ValueMayStand Begun before → ValueMayStandAlike Allowed R before
  alike_from_stand before v span next (inl e) = subst (λ (l : List Lexeme). BeginsAlike Allowed R (before ++ l)) (sym e) (from _ (v.null span))
  alike_from_stand before v span next (inr (inl e)) = subst (λ (l : List Lexeme). BeginsAlike Allowed R (before ++ l)) (sym e) (from _ (v.list span))
  alike_from_stand before v span next (inr (inr e)) = subst (λ (l : List Lexeme). BeginsAlike Allowed R (before ++ l)) (sym e) (from _ (v.object span))

  module _ {C F : Type 0} (at_end : F) (unexpected : Kind → Text → F) (S : Scalars C F) (before : List Lexeme) (t : Lexeme) where
    pub error_from_alike : (e : F) → NamedErrorAlike at_end unexpected Allowed S R before t e → NamedError Begun at_end unexpected S before t e
    error_from_alike _ (now.end h) = form.end h
    error_from_alike _ (now.own s r v) = form.own s r (stand_from_alike before v)
    error_from_alike _ (now.other n o) = form.other n (λ s r v. o s r (alike_from_stand before v))

    pub alike_from_error : (e : F) → NamedError Begun at_end unexpected S before t e → NamedErrorAlike at_end unexpected Allowed S R before t e
    alike_from_error _ (form.end h) = now.end h
    alike_from_error _ (form.own s r v) = now.own s r (alike_from_stand before v)
    alike_from_error _ (form.other n o) = now.other n (λ s r v. o s r (stand_from_alike before v))

-- ---- documents

one_spelled : (t u : Lexeme) → Alike t u → IsSpelled t → IsSpelled u
one_spelled t u a s =
    subst (λ (k : Kind). ((whole : Text) × Spells whole k u.text) ⊎ ((k ≡ EndOfFile) × (u.text ≡ []))) a.kind
    (subst (λ (x : Text). ((whole : Text) × Spells whole t.kind x) ⊎ ((t.kind ≡ EndOfFile) × (x ≡ []))) a.text s)

spelled_alike : (ts us : List Lexeme) → AllZip Alike ts us → AllByRecursion IsSpelled ts → AllByRecursion IsSpelled us
spelled_alike [] [] a s = tt
spelled_alike [] (u ∷ us) a s = absurd a
spelled_alike (t ∷ ts) [] a s = absurd a
spelled_alike (t ∷ ts) (u ∷ us) a s = (one_spelled t u a.0 s.0, spelled_alike ts us a.1 s.1)

module _ {C F : Type 0} (S : Scalars C F) where
  pub to_begins : (ts : List Lexeme) → Begins S ts → BeginsAlike IsSpelled (IsDocument S) ts
  to_begins ts b = (ts, b.more, b.tree, alike_refl ts, b.document, b.spelled)

  pub from_begins : (ts : List Lexeme) → BeginsAlike IsSpelled (IsDocument S) ts → Begins S ts
  from_begins ts b =
      let a : AllZip Alike (b.0 ++ b.1) (ts ++ b.1) = alike_join b.0 ts b.1 b.1 (alike_sym ts b.0 b.3) (alike_refl b.1) in
      let d = document_alike S (b.0 ++ b.1) (ts ++ b.1) b.2 a b.4 in
      record { more = b.1; tree = d.0; document = d.1; spelled = spelled_alike (b.0 ++ b.1) (ts ++ b.1) a b.5 }

  pub document_at_fault : (ts before : List Lexeme) (t : Lexeme) → AtFaultAlike IsSpelled (IsDocument S) ts before t
      → AtFault (Begins S) ts before t
  document_at_fault = fault_from_alike IsSpelled (IsDocument S) (Begins S) from_begins to_begins

  pub alike_document_at_fault : (ts before : List Lexeme) (t : Lexeme) → AtFault (Begins S) ts before t
      → AtFaultAlike IsSpelled (IsDocument S) ts before t
  alike_document_at_fault = alike_from_fault IsSpelled (IsDocument S) (Begins S) from_begins to_begins

  pub document_or_refused : (ts before : List Lexeme) (ds : List (Definition C)) (t : Lexeme) → AllByRecursion IsSpelled ts
      → IsDocument S ds ts → AtFault (Begins S) ts before t → ⊥
  document_or_refused ts before ds t spelled document h =
      never_both S ts before ds t spelled document (alike_document_at_fault ts before t h)

  pub refused_in_text : (source : Text) (ts before : List Lexeme) (t : Lexeme) → Cut source ts → AtFault (Begins S) ts before t
      → BeginsText S source before × (BeginsText S source (before ++ t ∷ []) → ⊥)
  refused_in_text source ts before t cut h = fault_in_text S source ts before t cut (alike_document_at_fault ts before t h)

  -- ---- values

  module _ (free : Bool) where
    pub value_to_begins : (ts : List Lexeme) → BeginsValue S free ts → BeginsAlike AnyToken (IsLocated (IsValue S free)) ts
    value_to_begins ts b = (ts, b.more, b.value, alike_refl ts, b.is_value, all_each AnyToken (λ t. tt) (ts ++ b.more))

    pub value_from_begins : (ts : List Lexeme) → BeginsAlike AnyToken (IsLocated (IsValue S free)) ts → BeginsValue S free ts
    value_from_begins ts b =
        let a : AllZip Alike (b.0 ++ b.1) (ts ++ b.1) = alike_join b.0 ts b.1 b.1 (alike_sym ts b.0 b.3) (alike_refl b.1) in
        let d = value_alike S free (b.0 ++ b.1) (ts ++ b.1) b.2.item a b.4.0 in
        record { more = b.1; value = record { item = d.0; span = span_of (ts ++ b.1) }; is_value = (d.1, refl) }

-- ---- types

-- which scalars are read doesn't matter
type_alike : (ts us : List Lexeme) (a : TypeRef) → AllZip Alike ts us → IsType a ts → (b : TypeRef) × IsType b us
type_alike ts us a p h =
    let w = whole_alike (λ n. symbol_at (every_scalar (Unit {0})) n _ a_type) (IsLocated IsType) (type_reads (every_scalar (Unit {0})))
    ts us (record { item = a; span = span_of ts }) p (h, refl) in
    (w.0.item, w.1.0)

pub type_to_begins : (ts : List Lexeme) → BeginsType ts → BeginsAlike AnyToken IsType ts
type_to_begins ts b = (ts, b.more, b.type_ref, alike_refl ts, b.is_type, all_each AnyToken (λ t. tt) (ts ++ b.more))

pub type_from_begins : (ts : List Lexeme) → BeginsAlike AnyToken IsType ts → BeginsType ts
type_from_begins ts b =
    let a : AllZip Alike (b.0 ++ b.1) (ts ++ b.1) = alike_join b.0 ts b.1 b.1 (alike_sym ts b.0 b.3) (alike_refl b.1) in
    let d = type_alike (b.0 ++ b.1) (ts ++ b.1) b.2 a b.4 in
    record { more = b.1; type_ref = d.0; is_type = d.1 }
