-- A document closes the brackets that it opens, so its tokens up to a deep one are no document.
use Rattle.std.proofs.Common.{ℕ, suc, Bool, true, false, cond, ◌≡◌, ◌+◌, ◌<◌, ◌≤◌, ◌⊎◌, ◌∷◌, [], List, ◌++◌, length, take, refl, sym, ap, ap₂, ◌∙◌, subst, arith, inl, inr, append_assoc, length-append}
use Rattle.std.specs.List.{AllByRecursion}
use Rattle.std.proofs.Math.Nat.{eq-or-lt_of_le}
use Rattle.std.proofs.Math.Seq.{take-append_seam}
use Rattle.std.proofs.lemmas.List.Sums.{sum_by-cons, sum_by-append}
use Rattle.graphql_lexical.specs.declared.kind.Kind.{Kind}
use Rattle.graphql_lexical.specs.declared.kind.Kind.TheVariants.{EndOfFile}
use Rattle.graphql_lexical.specs.Cutting.{Lexeme, EndsOnce}
use Rattle.graphql_lexical.specs.Nesting.{is_opening, is_closing, opened, closed, end_after, ended_by}
use Rattle.graphql_lexical.specs.device.Indexed.{IsFirstDeeperAt}
use Rattle.graphql_lexical.proofs.Public.{opened_push, closed_push, deep_count, opens, opening_no_end}
use Rattle.graphql_grammar.specs.Tokens.{IsSpelled}
use Rattle.graphql_grammar.specs.Tree.{Scalars, Definition}
use Rattle.graphql_grammar.specs.Grammar.{IsScalarKind, IsDocument}
use Rattle.graphql_grammar.specs.device.AlikeFaults.{AtFaultAlike, BeginsDocument}
use Rattle.graphql_grammar.specs.device.Faults.{Fault, DocumentFaultAt}
use Rattle.graphql_grammar.specs.device.Productions.{document, reads}
use Rattle.graphql_grammar.proofs.EndParts.{NoEnd, EndParts, end_parts, ends_once}
use Rattle.graphql_grammar.proofs.Elements.{all_front, all_join}
use Rattle.graphql_grammar.proofs.Nested as nested
use Rattle.graphql_grammar.proofs.Nested.{is_plain, IsPair}
use Rattle.graphql_grammar.proofs.TokenTests.{both}
use Rattle.std.proofs.lemmas.Bool.{not-true}
use Rattle.graphql_grammar.proofs.Faulty.{front_begins, same_parts, within}
use Rattle.graphql_grammar.proofs.Readers.{document_reads}
use Rattle.graphql_grammar.proofs.Spelling.{sample_spelled}

-- ---- documents are balanced

abbrev pub IsBalanced : List Lexeme → Type 0
IsBalanced ts = opened ts ≡ closed ts

-- what one token counts
abbrev one : Bool → ℕ
one b = cond b 1 0

opened_cons : (t : Lexeme) (ts : List Lexeme) → opened (t ∷ ts) ≡ one (is_opening t.kind) + opened ts
opened_cons t ts = sum_by-cons (λ (x : Lexeme). one (is_opening x.kind)) t ts

closed_cons : (t : Lexeme) (ts : List Lexeme) → closed (t ∷ ts) ≡ one (is_closing t.kind) + closed ts
closed_cons t ts = sum_by-cons (λ (x : Lexeme). one (is_closing x.kind)) t ts

join : (us vs : List Lexeme) → IsBalanced us → IsBalanced vs → IsBalanced (us ++ vs)
join us vs a b =
    sum_by-append (λ (x : Lexeme). one (is_opening x.kind)) us vs ∙ ap₂ (λ m n. m + n) a b
    ∙ sym (sum_by-append (λ (x : Lexeme). one (is_closing x.kind)) us vs)

plain_opens : (k : Kind) → is_plain k ≡ true → is_opening k ≡ false
plain_opens k e = not-true _ (both _ _ e).0

plain_closes : (k : Kind) → is_plain k ≡ true → is_closing k ≡ false
plain_closes k e = not-true _ (both _ _ (both _ _ e).1).0

-- a scalar is no bracket
scalar_opens : (k : Kind) → IsScalarKind k → (is_opening k ≡ false) × (is_closing k ≡ false)
scalar_opens k (inl e) = (ap is_opening e, ap is_closing e)
scalar_opens k (inr (inl e)) = (ap is_opening e, ap is_closing e)
scalar_opens k (inr (inr (inl e))) = (ap is_opening e, ap is_closing e)
scalar_opens k (inr (inr (inr e))) = (ap is_opening e, ap is_closing e)

uncounted : (t : Lexeme) → is_opening t.kind ≡ false → is_closing t.kind ≡ false → IsBalanced (t ∷ [])
uncounted t o c = opened_cons t [] ∙ ap (λ b. one b + 0) (o ∙ sym c) ∙ sym (closed_cons t [])

plain : (t : Lexeme) → is_plain t.kind ≡ true → IsBalanced (t ∷ [])
plain t p = uncounted t (plain_opens t.kind p) (plain_closes t.kind p)

scalar : (t : Lexeme) → IsScalarKind t.kind → IsBalanced (t ∷ [])
scalar t s = let k = scalar_opens t.kind s in uncounted t k.0 k.1

-- what an opening and a closing bracket count
record Counts (o c : Kind) : Type 0 where
  pub opens : is_opening o ≡ true
  pub opens_not : is_opening c ≡ false
  pub closes : is_closing c ≡ true
  pub closes_not : is_closing o ≡ false

pair_counts : (o c : Kind) → IsPair o c → Counts o c
pair_counts o c (inl (a, b)) =
    record {
      opens = ap is_opening a;
      opens_not = ap is_opening b;
      closes = ap is_closing b;
      closes_not = ap is_closing a;
    }
pair_counts o c (inr (inl (a, b))) =
    record {
      opens = ap is_opening a;
      opens_not = ap is_opening b;
      closes = ap is_closing b;
      closes_not = ap is_closing a;
    }
pair_counts o c (inr (inr (a, b))) =
    record {
      opens = ap is_opening a;
      opens_not = ap is_opening b;
      closes = ap is_closing b;
      closes_not = ap is_closing a;
    }

around : (o c : Lexeme) (us : List Lexeme) → IsPair o.kind c.kind → IsBalanced us → IsBalanced (o ∷ us ++ (c ∷ []))
around o c us p h =
    let k = pair_counts o.kind c.kind p in
    let a : opened (o ∷ us ++ (c ∷ [])) ≡ 1 + (opened us + 0) = opened_cons o (us ++ (c ∷ []))
    ∙ ap₂ (λ x y. one x + y) k.opens (opened_push us c ∙ ap (λ x. opened us + one x) k.opens_not) in
    let b : closed (o ∷ us ++ (c ∷ [])) ≡ 0 + (closed us + 1) = closed_cons o (us ++ (c ∷ []))
    ∙ ap₂ (λ x y. one x + y) k.closes_not (closed_push us c ∙ ap (λ x. closed us + one x) k.closes) in
    omega (arith, a, b, h)

-- an end counts for nothing
end_balanced : (us : List Lexeme) (t : Lexeme) → t.kind ≡ EndOfFile
    → (opened (us ++ t ∷ []) ≡ opened us + 0) × (closed (us ++ t ∷ []) ≡ closed us + 0)
end_balanced us t e = (
  opened_push us t ∙ ap (λ k. opened us + one (is_opening k)) e,
  closed_push us t ∙ ap (λ k. closed us + one (is_closing k)) e,
)

-- ---- a refusal sees no token after it

pub refused_in_front : (Allowed : Lexeme → Type 0) {A : Type 0} (R : A → List Lexeme → Type 0)
    (us vs ws before : List Lexeme) (t : Lexeme) → length before < length us
    → AtFaultAlike Allowed R (us ++ vs) before t → AtFaultAlike Allowed R (us ++ ws) before t
refused_in_front Allowed R us vs ws before t l h =
    let w = within us vs before h.after t h.whole l in
    record {
      after = w.0 ++ ws;
      whole = ap (λ l. l ++ ws) w.1 ∙ append_assoc before (t ∷ w.0) ws;
      begins = h.begins;
      ends = h.ends;
    }

-- ---- tokens up to a deep one, and then the end

-- what stands up to a token that is not the end has no end
no_end_before : (inner : List Lexeme) (end : Lexeme) (us : List Lexeme) (t : Lexeme) (after : List Lexeme)
    → NoEnd inner → inner ++ (end ∷ []) ≡ us ++ t ∷ after → (t.kind ≡ EndOfFile → ⊥) → NoEnd (us ++ t ∷ [])
no_end_before inner end [] t after n e k = (k, tt)
no_end_before [] end (u ∷ us) t after n e k = absurd (never_empty us after (let h : [] ≡ us ++ t ∷ after = cc in h))
  where
    never_empty : (us after : List Lexeme) → [] ≡ us ++ t ∷ after → ⊥
    never_empty [] after e = absurd (cc e)
    never_empty (u ∷ us) after e = absurd (cc e)
no_end_before (x ∷ inner) end (u ∷ us) t after n e k =
    let h : x ≡ u = cc in
    let rest : inner ++ (end ∷ []) ≡ us ++ t ∷ after = cc in
    (subst (λ (y : Lexeme). y.kind ≡ EndOfFile → ⊥) h n.0, no_end_before inner end us t after n.1 rest k)

pub middle_of : (P : Lexeme → Type 0) (us vs : List Lexeme) (t : Lexeme) → AllByRecursion P (us ++ t ∷ vs) → P t
middle_of P [] vs t h = h.0
middle_of P (u ∷ us) vs t h = middle_of P us vs t h.1

module _ {C F : Type 0} (S : Scalars C F) where
  -- Of the tokens up to token i, which is t and opens a bracket, and then an end, u is refused.
  -- Either that is the end, and then the tokens up to t begin a document. Or it is one of these, and then they don't, and
  -- all tokens are refused there too.
  abbrev pub TellsDepth : List Lexeme → ℕ → Lexeme → List Lexeme → Lexeme → Fault F → Type 0
  TellsDepth ts i t us u e =
      ((u ≡ end_after t) × BeginsDocument S (take (suc i) ts))
      ⊎ (((rest : List Lexeme) × (take (suc i) ts ≡ us ++ u ∷ rest)) × (BeginsDocument S (take (suc i) ts) → ⊥) × DocumentFaultAt S ts us u e)

  pub document_balanced : (ts : List Lexeme) (ds : List (Definition C)) → IsDocument S ds ts → opened ts ≡ closed ts
  document_balanced = nested.document IsBalanced refl join plain around S (λ t c k e. scalar t k)
      (λ t e. uncounted t (ap is_opening e) (ap is_closing e))

  module _ (depth : ℕ) (ts : List Lexeme) (i : ℕ) (t : Lexeme) (d : IsFirstDeeperAt depth ts i t) where
    abbrev pub front : List Lexeme
    front = d.before ++ t ∷ []

    pub short_parts : ended_by d.before t ≡ front ++ end_after t ∷ []
    short_parts = sym (append_assoc d.before (t ∷ []) (end_after t ∷ []))

    whole_parts : ts ≡ front ++ d.after
    whole_parts = d.whole ∙ sym (append_assoc d.before (t ∷ []) d.after)

    front_length : length front ≡ suc i
    front_length = length-append d.before (t ∷ []) ∙ omega (arith, d.number)

    pub t_goes_on : t.kind ≡ EndOfFile → ⊥
    t_goes_on = opening_no_end t.kind (opens depth ts i t d)

    -- They are no document: a bracket is still open.
    pub short_no_document : (ds : List (Definition C)) → IsDocument S ds (ended_by d.before t) → ⊥
    short_no_document ds h =
        let b : opened (front ++ end_after t ∷ [])
        ≡ closed (front ++ end_after t ∷ []) =
        subst IsBalanced short_parts (document_balanced (ended_by d.before t) ds h) in
        let c = end_balanced front (end_after t) refl in
        let still = deep_count depth ts i t d in
        absurd (omega (arith, b, c.0, c.1, still))

    module _ (spelled : AllByRecursion IsSpelled ts) (ends : EndsOnce ts) where
      parts : EndParts ts
      parts = end_parts ts ends

      front_no_end : NoEnd front
      front_no_end =
          no_end_before parts.inner parts.end d.before t d.after parts.no_end (sym parts.whole ∙ d.whole) t_goes_on

      pub short_spelled : AllByRecursion IsSpelled (ended_by d.before t)
      short_spelled =
          subst (AllByRecursion IsSpelled) (sym short_parts)
          (all_join IsSpelled front (end_after t ∷ [])
          (all_front IsSpelled front d.after (subst (AllByRecursion IsSpelled) whole_parts spelled))
          (inr (refl, refl), tt))

      pub short_ends : EndsOnce (ended_by d.before t)
      short_ends =
          ends_once (ended_by d.before t)
          (record { inner = front; end = end_after t; whole = short_parts; no_end = front_no_end; is_end = refl })

      pub front_is : front ≡ take (suc i) ts
      front_is =
          sym (ap (λ k. take k ts) (sym front_length) ∙ ap (take (length front)) whole_parts
          ∙ take-append_seam front d.after)

      at_end : (us : List Lexeme) (u : Lexeme) (e : Fault F) → DocumentFaultAt S (front ++ end_after t ∷ []) us u e
          → length us ≡ suc i → TellsDepth ts i t us u e
      at_end us u e h same =
          let parts = same_parts front us [] h.0.after (end_after t) u (front_length ∙ sym same) h.0.whole in
          inl (sym parts.1, subst (BeginsDocument S) (sym parts.0 ∙ front_is) h.0.begins)

      before_end : (us : List Lexeme) (u : Lexeme) (e : Fault F)
          → DocumentFaultAt S (front ++ end_after t ∷ []) us u e → length us < suc i → TellsDepth ts i t us u e
      before_end us u e h l =
          let shorter_by : length us < length front = omega (arith, l, front_length) in
          let inside = within front (end_after t ∷ []) us h.0.after u h.0.whole shorter_by in
          let refused : DocumentFaultAt S ts us u e = subst (λ l. DocumentFaultAt S l us u e) (sym whole_parts)
          (refused_in_front IsSpelled (IsDocument S) front (end_after t ∷ []) d.after us u shorter_by h.0, h.1) in
          inr (
            (inside.0, sym front_is ∙ inside.1),
            (λ b. refused.0.ends (front_begins (λ n. reads S n document) (IsDocument S) (document_reads S) IsSpelled
                sample_spelled (us ++ u ∷ []) inside.0 (subst (BeginsDocument S)
                (sym front_is ∙ inside.1 ∙ sym (append_assoc us (u ∷ []) inside.0)) b))),
            refused,
          )

      -- Where they are refused tells of all tokens.
      pub short_tells : (us : List Lexeme) (u : Lexeme) (e : Fault F) → DocumentFaultAt S (ended_by d.before t) us u e
          → TellsDepth ts i t us u e
      short_tells us u e h =
          let g : DocumentFaultAt S (front ++ end_after t ∷ []) us u e =
          subst (λ l. DocumentFaultAt S l us u e) short_parts h in
          let inside : length us < suc (suc i) = omega (
            arith,
            ap length g.0.whole,
            length-append front (end_after t ∷ []),
            length-append us (u ∷ g.0.after),
            front_length,
          ) in
          let up_to : length us ≤ suc i = omega (arith, inside) in
          elim (eq-or-lt_of_le up_to) [
            | inl same ↦ at_end us u e g same
            | inr l ↦ before_end us u e g l
          ]
