-- Lists of tokens that are one literal and the end, and where other lists are refused.
use Rattle.std.proofs.Common.{◌≡◌, ◌⊎◌, List, [], ◌∷◌, ◌++◌, length, refl, sym, ap, ap₂, ◌∙◌, subst, arith, inl, inr}
use Rattle.std.proofs.Common.{append_assoc, append-nil, length-append}
use Rattle.std.specs.Prelude.{◌≢◌}
use Rattle.graphql_lexical.specs.declared.kind.Kind.{Kind}
use Rattle.graphql_lexical.specs.declared.kind.Kind.TheVariants.{EndOfFile}
use Rattle.graphql_lexical.specs.Cutting.{Lexeme}
use Rattle.graphql_grammar.specs.Tokens.{Text}
use Rattle.graphql_grammar.specs.Tree.{Scalars}
use Rattle.graphql_grammar.specs.Samples.{sample}
use Rattle.graphql_grammar.specs.Faults.{AtFault, ValueMayStand, NamedError, end, own, other}
use Rattle.graphql_grammar.proofs.Public.{row, same_parts, token_in}
use Rattle.juniper_documents.specs.Literals.{IsAlone, BeginsAlone}

-- ---- lists

-- a list that goes on after `us`, and ends in e: e is the last of `us`, or stands after them
pub split_last : (us more front : List Lexeme) (e : Lexeme) → us ++ more ≡ front ++ e ∷ []
    → ((more ≡ []) × (us ≡ front ++ e ∷ []))
    ⊎ ((inner : List Lexeme) × (front ≡ us ++ inner) × (more ≡ inner ++ e ∷ []))
split_last us [] front e h = inl (refl, sym (append-nil us) ∙ h)
split_last [] (m ∷ more) front e h = inr (front, refl, h)
split_last (u ∷ us) (m ∷ more) [] e h = absurd (too_long us m more (let k : us ++ m ∷ more ≡ [] = cc in k))
  where
    too_long : (us : List Lexeme) (m : Lexeme) (more : List Lexeme) → us ++ m ∷ more ≡ [] → ⊥
    too_long [] m more k = absurd (cc k)
    too_long (u ∷ us) m more k = absurd (cc k)
split_last (u ∷ us) (m ∷ more) (x ∷ front) e h =
    let first : u ≡ x = cc in
    let rest : us ++ m ∷ more ≡ front ++ e ∷ [] = cc in
    elim (split_last us (m ∷ more) front e rest) [
      | inl (none, _) ↦ absurd (cc none)
      | inr (inner, is, after) ↦ inr (inner, ap₂ (λ (y : Lexeme) (ys : List Lexeme). y ∷ ys) (sym first) is, after)
    ]

-- the last token of a list, and those before it
pub same_last : (us vs : List Lexeme) (t u : Lexeme) → us ++ t ∷ [] ≡ vs ++ u ∷ [] → (us ≡ vs) × (t ≡ u)
same_last us vs t u e =
    same_parts us vs [] [] t u (omega (arith, ap length e, length-append us (t ∷ []), length-append vs (u ∷ []))) e

-- ---- literals

module _ {A : Type 0} (R : A → List Lexeme → Type 0) where
  pub begins_alone : (ts more : List Lexeme) (x : A) → R x (ts ++ more) → BeginsAlone R ts
  begins_alone ts more x h = record {
    more = more ++ sample EndOfFile ∷ [];
    literal = x;
    alone = subst (IsAlone R x) (append_assoc ts more (sample EndOfFile ∷ []))
        (row (ts ++ more) (sample EndOfFile ∷ []) h ([], (sample EndOfFile).span, refl));
  }

  -- Tokens that begin a literal and the end have the end, or begin the literal.
  abbrev pub HasEnd : List Lexeme → Type 0
  HasEnd ts = (front : List Lexeme) × (e : Lexeme) × (ts ≡ front ++ e ∷ []) × (e.kind ≡ EndOfFile)
      × ((x : A) × R x front)

  pub begun_alone : (ts : List Lexeme) → BeginsAlone R ts
      → HasEnd ts ⊎ ((more : List Lexeme) × ((x : A) × R x (ts ++ more)))
  begun_alone ts b =
      let h = b.alone in
      let e = token_in EndOfFile h.back h.second in
      elim (split_last ts b.more h.front e (h.whole ∙ ap (λ (l : List Lexeme). h.front ++ l) h.second.2)) [
        | inl (_, is) ↦ inl (h.front, e, is, refl, (b.literal, h.first))
        | inr (inner, is, _) ↦ inr (inner, (b.literal, subst (R b.literal) is h.first))
      ]

  -- after them comes a token that is not the end
  pub goes_on_alone : (before : List Lexeme) (t : Lexeme) → t.kind ≢ EndOfFile → BeginsAlone R (before ++ t ∷ [])
      → (more : List Lexeme) × ((x : A) × R x ((before ++ t ∷ []) ++ more))
  goes_on_alone before t none b = elim (begun_alone (before ++ t ∷ []) b) [
    | inl (front, e, is, k, _) ↦ absurd (none (ap (λ (u : Lexeme). u.kind) (same_last before front t e is).1 ∙ k))
    | inr more ↦ more
  ]

  -- ---- a literal that goes no further

  -- no literal is this one and more that begins with such a token
  abbrev pub NoLonger : List Lexeme → Lexeme → Type 0
  NoLonger taken t = (more : List Lexeme) (x : A) → R x (taken ++ t ∷ more) → ⊥

  pub refused_after : (taken rest : List Lexeme) (t : Lexeme) (x : A) → R x taken → t.kind ≢ EndOfFile
      → NoLonger taken t
      → AtFault (BeginsAlone R) (taken ++ t ∷ rest) taken t
  refused_after taken rest t x h none longer = record {
    after = rest;
    whole = refl;
    begins = begins_alone taken [] x (subst (R x) (sym (append-nil taken)) h);
    ends = λ b. let m = goes_on_alone taken t none b in
        longer m.0 m.1.0 (subst (R m.1.0) (append_assoc taken (t ∷ []) m.0) m.1.1);
  }

  -- ---- what is refused as a literal is refused as one alone

  module _ (Begun : List Lexeme → Type 0) (to : (ts more : List Lexeme) (x : A) → R x (ts ++ more) → Begun ts)
      (from : (ts : List Lexeme) → Begun ts → (more : List Lexeme) × ((x : A) × R x (ts ++ more))) where
    pub alone_of : (ts : List Lexeme) → Begun ts → BeginsAlone R ts
    alone_of ts b = let m = from ts b in begins_alone ts m.0 m.1.0 m.1.1

    pub of_alone : (before : List Lexeme) (t : Lexeme) → t.kind ≢ EndOfFile → BeginsAlone R (before ++ t ∷ [])
        → Begun (before ++ t ∷ [])
    of_alone before t none b = let m = goes_on_alone before t none b in to (before ++ t ∷ []) m.0 m.1.0 m.1.1

    pub fault_alone : (ts before : List Lexeme) (t : Lexeme)
        → ((us vs : List Lexeme) (x : A) → ts ≡ us ++ vs → R x us → ⊥) → AtFault Begun ts before t
        → AtFault (BeginsAlone R) ts before t
    fault_alone ts before t none h = record {
      after = h.after;
      whole = h.whole;
      begins = alone_of before h.begins;
      ends = λ b. elim (begun_alone (before ++ t ∷ []) b) [
        | inl (front, e, is, k, (x, r)) ↦
            none before (t ∷ h.after) x h.whole (subst (R x) (sym (same_last before front t e is).0) r)
        | inr (more, (x, r)) ↦ h.ends (to (before ++ t ∷ []) more x r)
      ];
    }

    pub value_stands : (before : List Lexeme) → ValueMayStand Begun before → ValueMayStand (BeginsAlone R) before
    value_stands before v = record {
      null = λ span. alone_of _ (v.null span);
      list = λ span. alone_of _ (v.list span);
      object = λ span. alone_of _ (v.object span);
    }

    pub stands_alone : (before : List Lexeme) → ValueMayStand (BeginsAlone R) before → ValueMayStand Begun before
    stands_alone before v = record {
      null = λ span. of_alone before _ (λ k. absurd (cc k)) (v.null span);
      list = λ span. of_alone before _ (λ k. absurd (cc k)) (v.list span);
      object = λ span. of_alone before _ (λ k. absurd (cc k)) (v.object span);
    }

    pub named_alone : {C F : Type 0} (at_end : F) (unexpected : Kind → Text → F) (S : Scalars C F)
        (before : List Lexeme)
        (t : Lexeme) (e : F) → NamedError Begun at_end unexpected S before t e
        → NamedError (BeginsAlone R) at_end unexpected S before t e
    named_alone at_end unexpected S before t _ (end k) = end k
    named_alone at_end unexpected S before t _ (own s r v) = own s r (value_stands before v)
    named_alone at_end unexpected S before t _ (other n o) = other n (λ s r v. o s r (stands_alone before v))
