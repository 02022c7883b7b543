-- What readers of parts keep: a part or a token and then another, items up to a token, spans, and parts that may be
-- absent.
use Rattle.std.proofs.Common.{ℕ, zero, suc, true, ◌≡◌, ◌≤◌, ◌<◌, ◌∷◌, [], List, ◌++◌, length, refl, sym, ap, ◌∙◌, arith, append_assoc, append-nil, subst, length-append, zero-le, le_refl, add-sub_cancel, take_at, Some, None}
use Rattle.graphql_lexical.specs.Place.{Span}
use Rattle.graphql_lexical.specs.Cutting.{Lexeme}
use Rattle.graphql_grammar.specs.Tokens.{span_of}
use Rattle.graphql_grammar.specs.Samples.{IsSample}
use Rattle.graphql_grammar.specs.device.Reading.{Test, passes, Read, Took, Refused, Out, Reader, after, seq, done, want, many, with_span, give_span, front, maybe, one_or_more, repeated}
use Rattle.graphql_grammar.specs.Grammar.{Each, Optional}
use Rattle.graphql_grammar.specs.device.Faults.{Fault}
use Rattle.graphql_grammar.proofs.Sequences.{row}
use Rattle.graphql_grammar.proofs.Rules.{less, Agrees, place_map, Meets, Rule, done_rule, less_below, Next, seq_rule, weaken}
use Rattle.graphql_grammar.proofs.TokenRules.{want_rule, on_rule, look_rule}

-- many
-- items, and then the closing token
pub record Closed {A : Type 0} (close : Test) (R : A → List Lexeme → Type 0) (r : List A × Lexeme) (ts : List Lexeme) :
    Type 0 where
  pub inner : List Lexeme
  pub whole : ts ≡ inner ++ (r.1 ∷ [])
  pub closes : passes close r.1 ≡ true
  pub each : Each R r.0 inner

pub closed_more : {A : Type 0} (close : Test) (R : A → List Lexeme → Type 0) (us ts : List Lexeme) (x : A)
    (r : List A × Lexeme) → R x us → Closed close R r ts → Closed close R (x ∷ r.0, r.1) (us ++ ts)
closed_more close R us ts x r h c = record {
  inner = us ++ c.inner;
  whole = ap (λ z. us ++ z) c.whole ∙ sym (append_assoc us c.inner (r.1 ∷ []));
  closes = c.closes;
  each = row us c.inner h c.each;
}

pub less_short : (n : ℕ) (us : List Lexeme) → 0 < length us → less (suc n) us ≤ n
less_short n [] h = absurd (omega arith)
less_short n (t ∷ us) h = less_below n us

module _ {F A : Type 0} (close : Test) (end : Lexeme) (closes : passes close end ≡ true) (ef : IsSample end)
    (R : A → List Lexeme → Type 0) (takes : (us : List Lexeme) (x : A) → R x us → 0 < length us) where
  pub many_rule : (f g : Reader F A) (n m k : ℕ) → n ≤ m → n ≤ k → Rule k f g R
      → Rule n (many close f n) (many close g m) (Closed close R)
  unfolding many
  many_rule f g zero m k le lk r = record {
    at = λ ts. (
      zero-le,
      [],
      ts,
      refl,
      (end ∷ [], ([], end), record { inner = []; whole = refl; closes = closes; each = refl }, (ef, tt)),
    );
  }
  many_rule f g (suc n) zero k le lk r = absurd (omega arith)
  many_rule f g (suc n) (suc m) k le lk r =
      on_rule (suc n) close _ _ _ _ (Closed close R)
      (λ t u p. done_rule n ([], t) ([], u) _ (record { inner = []; whole = refl; closes = p; each = refl }))
      (seq_rule (suc n) f g _ _ (Closed close R) (weaken k (suc n) f g R _ lk
      (λ us x h y. weaken n (less (suc n) us) _ _ _ _ (less_short n us (takes us x h)) (λ ws a q. q)
      (seq_rule n (many close f n) (many close g m) _ _ _ (weaken n n _ _ (Closed close R) _ (le_refl n)
      (λ ws z q w. done_rule (less n ws) (x ∷ z.0, z.1) (y ∷ w.0, w.1) _
      (rw append-nil (closed_more close R us ws x z h q)))
      (many_rule f g n m k (omega arith) (omega arith) r))))
      r))

-- Steps that readers are made of, in the form in which they are cited.
pub lower : (n m : ℕ) (us : List Lexeme) → m ≤ n → less m us ≤ n
lower n m us le = omega (arith, less_below m us)

-- f, and then k
pub step : {F A B : Type 0} (n m : ℕ) (f g : Reader F A) (k l : A → Reader F B) (R : A → List Lexeme → Type 0)
    (G : B → List Lexeme → Type 0)
    → m ≤ n → Rule n f g R → ((us : List Lexeme) (a b : A) → R a us
    → Rule (less m us) (k a) (l b) (λ y vs. G y (us ++ vs))) → Rule m (seq f k) (seq g l) G
step n m f g k l R G le r h = seq_rule m f g k l G (weaken n m f g R (Next m f g k l G) le (λ us a x b. h us a b x) r)

pub want_step : {F B : Type 0} (n : ℕ) (test : Test) (w : Lexeme) (k l : Lexeme → Reader F B)
    (G : B → List Lexeme → Type 0)
    → passes test w ≡ true → IsSample w → ((t u : Lexeme) → passes test t ≡ true
    → Rule (less n (t ∷ [])) (k t) (l u) (λ a us. G a (t ∷ us))) → Rule n (seq (want test) k) (seq (want test) l) G
want_step {F} n test w k l G e ef h = seq_rule n (want test) (want test) k l G
    (want_rule F n test (Next n (want test) (want test) k l G) w e ef (λ t p u. h t u p))

-- with_span
pub front_is : (us rest : List Lexeme) → front (us ++ rest) rest ≡ us
front_is us rest = rw (length-append us rest, add-sub_cancel (length us) (length rest), take_at us rest)

module _ {F A : Type 0} (f : Reader F (Span → A)) (ts rest : List Lexeme) where
  pub span_took : (k : Span → A) → f ts ≡ Took k rest → with_span f ts ≡ Took (k (span_of (front ts rest))) rest
  unfolding with_span
  span_took k e = ap (λ z. after z (give_span ts)) e

  pub span_refused : (x : Fault F) → f ts ≡ Refused rest x → with_span f ts ≡ Refused rest x
  unfolding with_span
  span_refused x e = ap (λ z. after z (give_span ts)) e

module _ {F A : Type 0} (n : ℕ) (f g : Reader F (Span → A)) (G : A → List Lexeme → Type 0) where
  abbrev pub Spanned : (Span → A) → List Lexeme → Type 0
  Spanned k us = G (k (span_of us)) us

  span_agrees : (us rest : List Lexeme) → Agrees us rest g → Agrees us rest (with_span g)
  span_agrees us rest p us' rest' q t = let w = p us' rest' q t in
      (w.0 (span_of (front (us' ++ rest') rest')), span_took g (us' ++ rest') rest' w.0 w.1)

  span_meets : (ts : List Lexeme) (r : Read F (Span → A)) → Meets n Spanned g ts r
      → Meets n G (with_span g) ts (after r (give_span ts))
  span_meets ts (Took k rest) (us, e, h, p) = (
    us,
    e,
    subst (λ z. G (k (span_of z)) us) (sym (ap (λ z. front z rest) e ∙ front_is us rest)) h,
    span_agrees us rest p,
  )
  span_meets ts (Refused rest x) (us, e, (more, k, h, y), p, z) = (
    us,
    e,
    (more, k (span_of (us ++ more)), h, y),
    λ us' rest' q t. span_refused g _ rest' x (p us' rest' q t),
    place_map Spanned G us us x (λ w m. (m.0, m.1 (span_of (us ++ (w ∷ m.0))), m.2, m.3)) z,
  )
  span_meets ts Out (le, us, last, e, (more, k, h, y)) = (le, us, last, e, (more, k (span_of (us ++ more)), h, y))

  pub span_rule : Rule n f g Spanned → Rule n (with_span f) (with_span g) G
  unfolding with_span
  span_rule r = record { at = λ ts. span_meets ts (f ts) (r.at ts) }

-- maybe
pub maybe_rule : {F A : Type 0} (n : ℕ) (test : Test) (f g : Reader F A) (R : A → List Lexeme → Type 0) → Rule n f g R
    → Rule n (maybe test f) (maybe test g) (Optional R)
maybe_rule n test f g R r = look_rule n test _ _ _ _ (Optional R)
    (step n n f g _ _ R (Optional R) (le_refl n) r (λ us a b h. done_rule _ (Some a) (Some b) _ (rw append-nil h)))
    (done_rule n None None (Optional R) refl)

-- one_or_more and repeated
each_more : {A : Type 0} (R : A → List Lexeme → Type 0) (us vs : List Lexeme) (x : A) (xs : List A) → R x us
    → Each R xs vs → Each R (x ∷ xs) (us ++ vs)
each_more R us vs x xs h k = row us vs h k

-- one item or more, and then the closing token
pub record ClosedList {A : Type 0} (close : Test) (R : A → List Lexeme → Type 0) (ts : List Lexeme) (x : A)
    (xs : List A) : Type 0 where
  pub inner : List Lexeme
  pub last : Lexeme
  pub whole : ts ≡ inner ++ (last ∷ [])
  pub closes : passes close last ≡ true
  pub each : Each R (x ∷ xs) inner

abbrev pub ClosedSome : {A : Type 0} → Test → (A → List Lexeme → Type 0) → List A → List Lexeme → Type 0
ClosedSome close R [] ts = ⊥
ClosedSome close R (x ∷ xs) ts = ClosedList close R ts x xs

module _ {F A : Type 0} (R : A → List Lexeme → Type 0) (takes : (us : List Lexeme) (x : A) → R x us → 0 < length us)
  where
    -- one item or more up to the closing token, and what h makes of them
    pub some_rule : {B : Type 0} (close : Test) (end : Lexeme) (closes : passes close end ≡ true) (ef : IsSample end)
        (f g : Reader F A) (n m : ℕ) (h : A → List A × Lexeme → B) (G : B → List Lexeme → Type 0) → n ≤ m → Rule n f g R
        → ((us : List Lexeme) (x : A) (r : List A × Lexeme) → ClosedSome close R (x ∷ r.0) us → G (h x r) us)
        → Rule n (seq f (λ x. seq (many close f n) (λ r. done (h x r))))
        (seq g (λ x. seq (many close g m) (λ r. done (h x r)))) G
    some_rule close end closes ef f g n m h G le r gives =
        step n n f g _ _ R G (le_refl n) r (λ us x y a.
        step n (less n us) _ _ _ _ (Closed close R) _ (lower n n us (le_refl n))
        (many_rule close end closes ef R takes f g n m n le (le_refl n) r) (λ ws z w c.
        done_rule _ (h x z) (h y w) _ (rw append-nil (gives (us ++ ws) x z (record {
          inner = us ++ c.inner;
          last = z.1;
          whole = ap (λ l. us ++ l) c.whole ∙ sym (append_assoc us c.inner (z.1 ∷ []));
          closes = c.closes;
          each = each_more R us c.inner x z.0 a c.each;
        })))))

    pub one_or_more_rule : (close : Test) (end : Lexeme) (closes : passes close end ≡ true) (ef : IsSample end)
        (f g : Reader F A) (n m : ℕ) → n ≤ m → Rule n f g R
        → Rule n (one_or_more close f n) (one_or_more close g m) (ClosedSome close R)
    one_or_more_rule close end closes ef f g n m le r =
        some_rule close end closes ef f g n m (λ x r. x ∷ r.0) (ClosedSome close R) le r (λ us x r h. h)

    pub repeated_rule : (test : Test) (f g : Reader F A) (n m k : ℕ) → n ≤ m → n ≤ k → Rule k f g R
        → Rule n (repeated test f n) (repeated test g m) (Each R)
    unfolding repeated
    repeated_rule test f g zero m k le lk r = record { at = λ ts. (zero-le, [], ts, refl, ([], [], refl, tt)) }
    repeated_rule test f g (suc n) zero k le lk r = absurd (omega arith)
    repeated_rule test f g (suc n) (suc m) k le lk r = look_rule (suc n) test _ _ _ _ (Each R)
        (step k (suc n) f g _ _ R (Each R) lk r (λ us x y h.
        step n (less (suc n) us) (repeated test f n) (repeated test g m) _ _ (Each R) _ (less_short n us (takes us x h))
        (repeated_rule test f g n m k (omega arith) (omega arith) r) (λ ws xs ys e.
        done_rule _ (x ∷ xs) (y ∷ ys) _ (rw append-nil (each_more R us ws x xs h e)))))
        (done_rule (suc n) [] [] (Each R) refl)
