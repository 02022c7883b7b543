-- The fault that a reader names.
use Rattle.std.proofs.Common.{ℕ, suc, Bool, true, false, cond, ◌≡◌, ◌≤◌, ◌+◌, ◌∷◌, [], List, ◌++◌, length, refl, sym, ap, ◌∙◌, arith, append_assoc, append-nil, subst, inl, inr, le_refl}
use Rattle.std.proofs.lemmas.List.{append_cancel_right}
use Rattle.graphql_lexical.specs.declared.kind.Kind.{Kind}
use Rattle.graphql_lexical.specs.declared.kind.Kind.TheVariants.{BracketOpen, CurlyOpen, EndOfFile}
use Rattle.graphql_lexical.specs.Cutting.{Lexeme}
use Rattle.graphql_lexical.specs.laws.Alike.{Alike}
use Rattle.graphql_grammar.specs.device.Reading.{of, Took, Refused, Reader, fault_of}
use Rattle.graphql_grammar.specs.Samples.{sample, IsSample}
use Rattle.graphql_grammar.specs.Tree.{Scalars}
use Rattle.graphql_grammar.specs.Grammar.{IsScalarKind}
use Rattle.graphql_grammar.specs.device.AlikeFaults.{BeginsAlike, ValueMayStandAlike, AtFaultAlike}
use Rattle.graphql_grammar.specs.device.Faults.{Fault, UnexpectedEndOfFile, UnexpectedToken, ScalarError, NamesFault}
use Rattle.graphql_grammar.proofs.Rules.{Meets, alike_refl, SameHead_refl}
use Rattle.graphql_grammar.proofs.TokenTests.{of_kind}
use Rattle.graphql_grammar.proofs.Faulty.{Reads, fails_all, value_stands, at_fault}
use Rattle.graphql_grammar.proofs.NoValues.{NoValueAfter}
use Rattle.graphql_grammar.proofs.ScalarFaults.{TellsFault, TellsFaults, IsScalarFault}
use Rattle.std.specs.List.{AllByRecursion, AllZip}
use Rattle.graphql_grammar.proofs.Alike.{alike_sym, alike_join}
use Rattle.graphql_grammar.specs.Tokens.{nowhere}

not_scalar_error : {F : Type 0} (b : Bool) (t : Lexeme) (y : F)
    → cond b UnexpectedEndOfFile (UnexpectedToken t.kind t.text) ≡ ScalarError y → ⊥
not_scalar_error true t y e = absurd (cc e)
not_scalar_error false t y e = absurd (cc e)

module _ {C F A : Type 0} (S : Scalars C F) (f : ℕ → Reader F A) (R : A → List Lexeme → Type 0) (r : Reads f R)
    (strict : Bool) (tells : (n : ℕ) → TellsFaults S strict (f n)) (Allowed : Lexeme → Type 0)
    (fills : (t : Lexeme) → IsSample t → Allowed t) where
  -- What begins so is read to its end, with enough fuel.
  begun : (us : List Lexeme) (w : Lexeme) → BeginsAlike Allowed R (us ++ (w ∷ []))
      → (N : ℕ) × (more : List Lexeme) × ((m : ℕ) → N ≤ m → (b : A) × (f m (us ++ (w ∷ more)) ≡ Took b []))
  begun us w (vs, more, a, h, k, al) = (
    suc (length (vs ++ more)),
    more,
    λ m le. by_agrees m (subst (λ z. Meets m R (f m) (vs ++ more) z) (r.finds m (vs ++ more) a (omega arith) k)
        ((r.keeps m m (le_refl m)).at (vs ++ more))),
  )
    where
      by_agrees : (m : ℕ) → Meets m R (f m) (vs ++ more) (Took a []) → (b : A) × (f m (us ++ (w ∷ more)) ≡ Took b [])
      by_agrees m (ws, e, g, agrees) =
          let same : vs ++ more ≡ ws = e ∙ append-nil ws in
          let alike : AllZip Alike (vs ++ more) ((us ++ (w ∷ [])) ++ more) =
          alike_join vs (us ++ (w ∷ [])) more more (alike_sym (us ++ (w ∷ [])) vs h) (alike_refl more) in
          let z = agrees ((us ++ (w ∷ [])) ++ more) [] (subst (λ l. AllZip Alike l ((us ++ (w ∷ [])) ++ more)) same alike)
          tt in
          (z.0, ap (f m) (sym (append-nil ((us ++ (w ∷ [])) ++ more) ∙ append_assoc us (w ∷ []) more)) ∙ z.1)

  -- A scalar token that is refused as a token stands where no value may.
  no_value : (n : ℕ) (ts us rest : List Lexeme) (t : Lexeme) (e : Fault F) → f n ts ≡ Refused (t ∷ rest) e
      → ts ≡ us ++ (t ∷ rest) → e ≡ fault_of t.kind t.text → IsScalarKind t.kind → ValueMayStandAlike Allowed R us → ⊥
  unfolding fault_of
  no_value n ts us rest t e p q xe s v = by_tell (subst (λ z. TellsFault S strict (f m) (us ++ (t ∷ rest)) z) refused
      ((tells m).at (us ++ (t ∷ rest))))
    where
      b1 : (N : ℕ) × (more : List Lexeme) × ((m : ℕ) → N ≤ m → (b : A)
          × (f m (us ++ (sample BracketOpen ∷ more)) ≡ Took b []))
      b1 = begun us (sample BracketOpen) (v nowhere (sample BracketOpen ∷ []) (inr (inl refl)))

      b2 : (N : ℕ) × (more : List Lexeme) × ((m : ℕ) → N ≤ m → (b : A)
          × (f m (us ++ (sample CurlyOpen ∷ more)) ≡ Took b []))
      b2 = begun us (sample CurlyOpen) (v nowhere (sample CurlyOpen ∷ []) (inr (inr refl)))

      m : ℕ
      m = n + (b1.0 + b2.0)

      refused : f m (us ++ (t ∷ rest)) ≡ Refused (t ∷ rest) e
      refused = fails_all f R r n m (omega arith) ts us rest t e p q us (t ∷ rest) (alike_refl us)
          (SameHead_refl (t ∷ rest))

      by_no_value : (vs : List Lexeme) → vs ≡ us → NoValueAfter strict (f m) vs → ⊥
      by_no_value vs h (inl g) =
          let stop = g (sample BracketOpen ∷ b1.1) refl in
          let took = b1.2 m (omega arith) in
          let z = sym took.1 ∙ ap (λ l. f m (l ++ (sample BracketOpen ∷ b1.1))) (sym h) ∙ stop.1 in
          absurd (cc z)
      by_no_value vs h (inr g) =
          let stop = g.1 (sample CurlyOpen ∷ b2.1) refl in
          let took = b2.2 m (omega arith) in
          let z = sym took.1 ∙ ap (λ l. f m (l ++ (sample CurlyOpen ∷ b2.1))) (sym h) ∙ stop.1 in
          absurd (cc z)

      by_tell : TellsFault S strict (f m) (us ++ (t ∷ rest)) (Refused (t ∷ rest) e) → ⊥
      by_tell (vs, h, inl o) = not_scalar_error (of EndOfFile t.kind t.text) t o.0 (sym xe ∙ o.1)
      by_tell (vs, h, inr o) = by_no_value vs (append_cancel_right vs us (t ∷ rest) (sym h)) (o.1 s)

  -- The reader's fault is the one of the definition.
  names : (n : ℕ) (ts rest : List Lexeme) (t : Lexeme) (e : Fault F) → AllByRecursion Allowed ts
      → f n ts ≡ Refused (t ∷ rest) e → (us : List Lexeme) × (ts ≡ us ++ (t ∷ rest)) × NamesFault Allowed S R us t e
  unfolding fault_of
  names n ts rest t e al p = by_tell (subst (λ z. TellsFault S strict (f n) ts z) p ((tells n).at ts))
    where
      by_fault : (us : List Lexeme) (b : Bool) → ts ≡ us ++ (t ∷ rest) → of EndOfFile t.kind t.text ≡ b
          → e ≡ cond b UnexpectedEndOfFile (UnexpectedToken t.kind t.text) → e ≡ fault_of t.kind t.text
          → NamesFault Allowed S R us t e
      by_fault us true q h x xe = rw x (of_kind EndOfFile t h)
      by_fault us false q h x xe = rw x (
        refl,
        refl,
        (λ c. absurd
            (cc (sym h ∙ ap (λ (k : Kind). of EndOfFile k t.text) c))),
        λ s i v. no_value n ts us rest t e p q xe s v,
      )

      by_scalar_fault : (us : List Lexeme) → ts ≡ us ++ (t ∷ rest) → IsScalarFault S t e → NamesFault Allowed S R us t e
      by_scalar_fault us q (y, x, s, d) =
          let w = value_stands f R r Allowed fills n ts rest t y al
          (p ∙ ap (λ (z : Fault F). Refused (t ∷ rest) z) x) in
          rw x (s, d, subst (λ z. ValueMayStandAlike Allowed R z) (append_cancel_right w.0 us (t ∷ rest) (sym w.1 ∙ q)) w.2)

      by_tell : TellsFault S strict (f n) ts (Refused (t ∷ rest) e)
          → (us : List Lexeme) × (ts ≡ us ++ (t ∷ rest)) × NamesFault Allowed S R us t e
      by_tell (us, q, inl o) = (us, q, by_scalar_fault us q o)
      by_tell (us, q, inr o) = (us, q, by_fault us (of EndOfFile t.kind t.text) q refl o.0 o.0)

  -- Where the reader refuses, the definitions do.
  pub refused_at : (n : ℕ) (ts rest : List Lexeme) (t : Lexeme) (e : Fault F) → AllByRecursion Allowed ts
      → f n ts ≡ Refused (t ∷ rest) e
      → (us : List Lexeme) × (ts ≡ us ++ (t ∷ rest)) × (AtFaultAlike Allowed R ts us t × NamesFault Allowed S R us t e)
  refused_at n ts rest t e al p =
      let a = at_fault f R r Allowed fills n ts rest t e al p in
      let w = names n ts rest t e al p in (
        a.0,
        a.1,
        (
          a.2,
          subst (λ z. NamesFault Allowed S R z t e)
              (append_cancel_right w.0 a.0 (t ∷ rest) (sym w.1 ∙ a.1)) w.2,
        ),
      )
