-- Tokens whose brackets are counted one after another, up to the first that is nested too deep.
use Rattle.std.proofs.Common.{◌≡◌, Bool, ℕ, ◌+◌, ◌-◌, ◌<◌, ◌≤◌, true, false, List, [], ◌∷◌, ◌++◌, length, cond}
use Rattle.std.proofs.Common.{Some, None, refl, sym, ap, ap₂, subst, ◌∙◌, arith, append_assoc, length-append}
use Rattle.std.specs.Prelude.{Option, pos, ◌-ℤ◌, ◌<ℤ◌, ◌≤ℤ◌}
use Rattle.std.specs.Option.{is_some}
use Rattle.std.proofs.lemmas.Int.{ints}
use Rattle.std.proofs.lemmas.List.{append-nil}
use Rattle.graphql_lexical.specs.declared.kind.Kind.TheVariants.{EndOfFile}
use Rattle.graphql_lexical.specs.Cutting.{Lexeme}
use Rattle.graphql_lexical.specs.Nesting.{is_opening, is_closing, opened, closed, nesting, ended_by, IsFirstDeeper}
use Rattle.graphql_lexical.proofs.Public.{opened_push, closed_push}
use Rattle.juniper_tokens.specs.declared.span.Span.{Span}
use Rattle.juniper_tokens.specs.Spans.{view_span}
use Rattle.juniper_tokens.specs.Nesting.{EndsAtNesting, IsShallow}
use Rattle.juniper_tokens.specs.device.Nested.{NestedAs}

-- a difference that is not above depth, and one that is
not_above : (a b depth : ℕ) → a - b ≤ depth → (pos a -ℤ pos b) ≤ℤ pos depth
not_above a b depth h = omega (arith, ints)

above : (a b depth : ℕ) → depth < a - b → pos depth <ℤ (pos a -ℤ pos b)
above a b depth h = omega (arith, ints)

-- one bracket more, or none
pub one_counted : (n : ℕ) (b : Bool) → b ≡ true → n + 1 ≡ n + cond b 1 0
one_counted n b e = rw e refl

pub none_counted : (n : ℕ) (b : Bool) → b ≡ false → n ≡ n + cond b 1 0
none_counted n b e = rw e (omega arith)

-- a list that ends before the last token is the front of the others
front_within : (ts front : List Lexeme) (t o : Lexeme) (os : List Lexeme) → ts ++ t ∷ [] ≡ front ++ o ∷ os
    → (rest : List Lexeme) × (ts ≡ front ++ rest)
front_within [] [] t o os e = ([], refl)
front_within [] (f ∷ fs) t o os e = absurd (omega (arith, ap length e, length-append fs (o ∷ os)))
front_within (x ∷ ts) [] t o os e = (x ∷ ts, refl)
front_within (x ∷ ts) (f ∷ fs) t o os e =
    let rest : ts ++ t ∷ [] ≡ fs ++ o ∷ os = cc in
    let same : x ≡ f = cc in
    let more = front_within ts fs t o os rest in
    (more.0, ap₂ (λ (z : Lexeme) (zs : List Lexeme). z ∷ zs) same more.1)

-- what isn't above depth
within : (a b depth : ℕ) → (pos a -ℤ pos b) ≤ℤ pos depth → a - b ≤ depth
within a b depth h = omega (arith, ints, h)

-- no tokens
pub none_nested : (depth : ℕ) → NestedAs depth [] 0 0 None
none_nested depth = (shallow, refl, refl)
  where
    none : (front others : List Lexeme) → [] ≡ front ++ others → front ≡ []
    none [] others e = refl
    none (f ∷ fs) others e = absurd (omega (arith, ap length e))

    shallow : IsShallow depth []
    shallow front others e =
        subst (λ (l : List Lexeme). nesting l ≤ℤ pos depth) (sym (none front others e))
        (not_above 0 0 depth (omega arith))

module _ (depth : ℕ) (ts : List Lexeme) (t : Lexeme) where
  shallow_more : IsShallow depth ts → nesting (ts ++ t ∷ []) ≤ℤ pos depth → IsShallow depth (ts ++ t ∷ [])
  shallow_more s here front [] e =
      subst (λ (l : List Lexeme). nesting l ≤ℤ pos depth) (e ∙ append-nil front) here
  shallow_more s here front (o ∷ os) e = let w = front_within ts front t o os e in s front w.0 w.1

  still_first : (before : List Lexeme) (x : Lexeme) → IsFirstDeeper depth ts before x
      → IsFirstDeeper depth (ts ++ t ∷ []) before x
  still_first before x d = record {
    after = d.after ++ t ∷ [];
    whole = ap (λ (l : List Lexeme). l ++ t ∷ []) d.whole ∙ append_assoc before (x ∷ d.after) (t ∷ []);
    deeper = d.deeper;
    first = d.first;
  }

  module _ (o c p q : ℕ) (h : NestedAs depth ts o c None) (p_is : p ≡ o + cond (is_opening t.kind) 1 0)
      (q_is : q ≡ c + cond (is_closing t.kind) 1 0) where
    opened_now : p ≡ opened (ts ++ t ∷ [])
    opened_now = p_is ∙ ap (λ (n : ℕ). n + cond (is_opening t.kind) 1 0) h.1 ∙ sym (opened_push ts t)

    closed_now : q ≡ closed (ts ++ t ∷ [])
    closed_now = q_is ∙ ap (λ (n : ℕ). n + cond (is_closing t.kind) 1 0) h.2 ∙ sym (closed_push ts t)

    nesting_now : (pos p -ℤ pos q) ≡ nesting (ts ++ t ∷ [])
    nesting_now = ap₂ (λ (a b : ℕ). pos a -ℤ pos b) opened_now closed_now

    still_shallow : p - q ≤ depth → NestedAs depth (ts ++ t ∷ []) p q None
    still_shallow l = (
      shallow_more h.0 (subst (λ z. z ≤ℤ pos depth) nesting_now (not_above p q depth l)),
      opened_now,
      closed_now,
    )

    now_deep : depth < p - q → (span : Span) → view_span span ≡ t.span
        → NestedAs depth (ts ++ t ∷ []) p q (Some span)
    now_deep l span at = (
      ts,
      t,
      record {
        after = [];
        whole = refl;
        deeper = subst (λ z. pos depth <ℤ z) nesting_now (above p q depth l);
        first = h.0;
      },
      at,
    )

  -- how deep the tokens are nested
  nested_within : (o c : ℕ) → NestedAs depth ts o c None → o - c ≤ depth
  nested_within o c h =
      within o c depth
      (subst (λ z. z ≤ℤ pos depth) (ap₂ (λ (a b : ℕ). pos a -ℤ pos b) (sym h.1) (sym h.2))
      (h.0 ts [] (sym (append-nil ts))))

  -- ---- one token more, by what was found before it

  -- after a token that is nested too deep
  pub still_deep : (deep : Option Span) → is_some deep ≡ true → (o c p q : ℕ) → NestedAs depth ts o c deep
      → NestedAs depth (ts ++ t ∷ []) p q deep
  still_deep None e o c p q h = absurd (cc e)
  still_deep (Some span) e o c p q h = (h.0, h.1, still_first h.0 h.1 h.2, h.3)

  module _ (deep : Option Span) (none : is_some deep ≡ false) (o c : ℕ) (h : NestedAs depth ts o c deep) where
    is_none : deep ≡ None
    is_none = by_cases deep none
      where
        by_cases : (d : Option Span) → is_some d ≡ false → d ≡ None
        by_cases None e = refl
        by_cases (Some span) e = absurd (cc e)

    nested : NestedAs depth ts o c None
    nested = subst (NestedAs depth ts o c) is_none h

    pub before_within : o - c ≤ depth
    before_within = nested_within o c nested

    module _ (p q : ℕ) (p_is : p ≡ o + cond (is_opening t.kind) 1 0) (q_is : q ≡ c + cond (is_closing t.kind) 1 0) where
      pub none_deeper : p - q ≤ depth → NestedAs depth (ts ++ t ∷ []) p q deep
      none_deeper l = subst (NestedAs depth (ts ++ t ∷ []) p q) (sym is_none) (still_shallow o c p q nested p_is q_is l)

      pub found_deeper : depth < p - q → (span : Span) → view_span span ≡ t.span
          → NestedAs depth (ts ++ t ∷ []) p q (Some span)
      found_deeper l span at = now_deep o c p q nested p_is q_is l span at

  -- before the end
  pub ends_nested : (o c : ℕ) (deep : Option Span) → NestedAs depth ts o c deep → t.kind ≡ EndOfFile
      → (new : List Lexeme) × EndsAtNesting depth (ts ++ t ∷ []) deep new
  ends_nested o c None h end =
      let opens = none_counted o (is_opening t.kind) (ap is_opening end) in
      let closes = none_counted c (is_closing t.kind) (ap is_closing end) in
      (ts ++ t ∷ [], ((still_shallow o c o c h opens closes (nested_within o c h)).0, refl))
  ends_nested o c (Some span) h end = (ended_by h.0 h.1, (h.0, h.1, still_first h.0 h.1 h.2, h.3, refl))
