-- The steps of a production, as readers of the grammar and as a cursor: what both answer.
use Rattle.std.proofs.Common.{◌≡◌, ℕ, suc, length, arith, Bool, true, false, cond, List, [], ◌∷◌, Ok, refl, sym, ap, ◌∙◌, subst, ◌⊎◌, inl, inr}
use Rattle.graphql_lexical.specs.Place.{Span}
use Rattle.graphql_lexical.specs.Cutting.{Lexeme}
use Rattle.graphql_grammar.specs.Tokens.{span_of, Located}
use Rattle.graphql_grammar.specs.Tree.{Scalars, Value}
use Rattle.graphql_grammar.specs.device.Reading.{Test, passes, Took, Refused, Out, Reader, after, seq, done, want, literal, on, pick, look, choose, with_span, front, many, repeated, fully, Symbol, Steps, gives, wants, takes, sees, part, symbol, spanned, scalar, closed, each}
use Rattle.graphql_grammar.specs.device.Reading as reading
use Rattle.graphql_grammar.specs.device.Productions.{symbol_at, reads}
use Rattle.graphql_grammar.proofs.Public.{Answers, settled}
use Rattle.juniper_tokens.specs.Errors.{Error}
use Rattle.juniper_tokens.specs.Cursor.{Read, ◌>>=◌, no_lexeme, first_of, next_at, next_if}
use Rattle.juniper_parser.specs.device.Seen.{seen}
use Rattle.juniper_parser.specs.device.Steps.{closed_by, symbol_read, scalar_read, closed_read, each_read, cursor}
use Rattle.juniper_parser.proofs.Stepping.{PassesNoEnd, bind_assoc, taken, seen_test, seen_span}
use Rattle.juniper_parser.proofs.ScalarTokens.{scalar_seen}

-- the fuel ran out, or it is seen as s
abbrev pub Shown : {A : Type 0} → reading.Read Error A → Read A → Type 0
Shown r s = (r ≡ Out) ⊎ (seen r ≡ s)

after_shown : {A B : Type 0} (k : A → Reader Error B) (s : Read A) (l : (A × List Lexeme) → Read B)
    → ((x : A × List Lexeme) → Shown (k x.0 x.1) (l x)) → (r : reading.Read Error A) → Shown r s
    → Shown (after r k) (s >>= l)
after_shown k s l h r (inl e) = inl (ap (λ z. after z k) e)
after_shown k s l h (Took a rest) (inr e) = subst (λ z. Shown (k a rest) (z >>= l)) e (h (a, rest))
after_shown k s l h (Refused [] x) (inr e) = inr (ap (λ z. z >>= l) e)
after_shown k s l h (Refused (t ∷ ts) x) (inr e) = inr (ap (λ z. z >>= l) e)
after_shown k s l h Out (inr e) = inl refl

pub seq_shown : {A B : Type 0} (f : Reader Error A) (k : A → Reader Error B) (ts : List Lexeme) (s : Read A)
    (l : (A × List Lexeme) → Read B) → Shown (f ts) s → ((x : A × List Lexeme) → Shown (k x.0 x.1) (l x))
    → Shown (seq f k ts) (s >>= l)
unfolding seq
seq_shown f k ts s l e h = after_shown k s l h (f ts) e

pub on_shown : {A : Type 0} (test : Test) (k : Lexeme → Reader Error A) (g : Reader Error A) (ts : List Lexeme)
    (l : (Lexeme × List Lexeme) → Read A) (s : Read A) → PassesNoEnd test → passes test no_lexeme ≡ false
    → ((x : Lexeme × List Lexeme) → Shown (k x.0 x.1) (l x)) → Shown (g ts) s
    → Shown (on test k g ts) (cond (passes test (first_of ts)) (next_at ts >>= l) s)
unfolding on
on_shown test k g [] l s e n h p = subst (λ b. Shown (g []) (cond b (next_at [] >>= l) s)) (sym n) p
on_shown test k g (t ∷ ts) l s e n h p = by_test (passes test t) refl
  where
    by_test : (b : Bool) → passes test t ≡ b → Shown (pick b k g t ts) (cond b (next_at (t ∷ ts) >>= l) s)
    by_test true q = subst (λ z. Shown (k t ts) (z >>= l)) (taken t ts (e t q)) (h (t, ts))
    by_test false q = p

pub look_shown : {A : Type 0} (test : Test) (f g : Reader Error A) (ts : List Lexeme) (r s : Read A)
    → passes test no_lexeme ≡ false → Shown (f ts) r → Shown (g ts) s
    → Shown (look test f g ts) (cond (passes test (first_of ts)) r s)
unfolding look
look_shown test f g [] r s n p q = subst (λ b. Shown (g []) (cond b r s)) (sym n) q
look_shown test f g (t ∷ ts) r s n p q = by_test (passes test t)
  where
    by_test : (b : Bool) → Shown (choose b f g (t ∷ ts)) (cond b r s)
    by_test true = p
    by_test false = q

-- a reader whose fuel suffices is shown
pub enough : {A : Type 0} (f : ℕ → Reader Error A) → Answers f → (n : ℕ) (ts : List Lexeme)
    → Shown (f n ts) (seen (fully f ts))
enough f w n ts = elim ((settled f w n).at ts) [ inl e ↦ inl e | inr e ↦ inr (ap seen e) ]

module _ {C : Type 0} (S : Scalars C Error) where
  -- What the steps of a production have to be, so that the cursor goes their way: no test passes the end or what
  -- is at no place, spans are returned rightly, and lists are read.
  abbrev pub Fits : {A : Type 0} → Steps C A → Type 0
  Fits (gives a) = Unit {0}
  Fits (wants test k) = PassesNoEnd test × ((t : Lexeme) → Fits (k t))
  Fits (takes test k p) = PassesNoEnd test × (passes test no_lexeme ≡ false) × ((t : Lexeme) → Fits (k t)) × Fits p
  Fits (sees test p q) = (passes test no_lexeme ≡ false) × Fits p × Fits q
  Fits (part {B = B} p k) = Fits p × ((x : B) → Fits (k x))
  Fits (symbol r) = Unit {0}
  Fits (spanned p) = Fits p
  Fits (scalar k) = (v : Located (Value C)) → Fits (k v)
  Fits (closed {B = B} close p k) = Answers (λ n. many close (reads S n p) n) ×
      ((xs : List B) (q : Span) → Fits (k xs q))
  Fits (each {B = B} test p k) = Answers (λ n. repeated test (reads S n p) n) × ((xs : List B) → Fits (k xs))

  abbrev pub SymbolsShown : Type 1
  SymbolsShown = (A : Type 0) (r : Symbol C A) (n : ℕ) (ts : List Lexeme) → Shown (symbol_at S n A r ts)
      (symbol_read S r ts)

  spans_shown : {A : Type 0} (p : Steps C (Span → A)) (f : Reader Error (Span → A)) (ts : List Lexeme)
      → Shown (f ts) (cursor S p ts)
      → Shown (with_span f ts) (cursor S p ts >>= λ x. Ok (x.0 (span_of (front ts x.1)), x.1))
  unfolding with_span
  spans_shown p f ts (inl e) = inl (ap (λ z. after z (reading.give_span ts)) e)
  spans_shown {A} p f ts (inr e) = inr (
      seen_span f ts ∙ ap (λ (z : Read (Span → A)). z >>= λ x. Ok (x.0 (span_of (front ts x.1)), x.1)) e)

  closed_shown : {A : Type 0} (r : reading.Read Error (List A × Lexeme)) (s : Read (List A × Lexeme)) {B : Type 0}
      (k : (List A × Lexeme) → Reader Error B) (l : ((List A × Span) × List Lexeme) → Read B) → Shown r s
      → ((x : (List A × Lexeme) × List Lexeme) → Shown (k x.0 x.1) (l ((x.0.0, x.0.1.span), x.1)))
      → Shown (after r k) (closed_by s >>= l)
  closed_shown r s k l e h = subst (λ z. Shown (after r k) z) (sym (bind_assoc s _ _)) (after_shown k s _ h r e)

  module _ (symbols : SymbolsShown) where
    pub shown : {A : Type 0} (p : Steps C A) → Fits p → (n : ℕ) (ts : List Lexeme)
        → Shown (reads S n p ts) (cursor S p ts)
    unfolding done closed_read each_read seq
    shown (gives a) h n ts = inr refl
    shown (wants test k) h n ts = seq_shown (want test) (λ t. reads S n (k t)) ts
        (next_if (passes test (first_of ts)) ts)
        (λ t. cursor S (k t.0) t.1) (inr (seen_test test h.0 ts)) (λ x. shown (k x.0) (h.1 x.0) n x.1)
    shown (takes test k p) h n ts =
        on_shown test (λ t. reads S n (k t)) (reads S n p) ts (λ t. cursor S (k t.0) t.1) (cursor S p ts) h.0 h.1
        (λ x. shown (k x.0) (h.2 x.0) n x.1) (shown p h.3 n ts)
    shown (sees test p q) h n ts = look_shown test (reads S n p) (reads S n q) ts (cursor S p ts) (cursor S q ts) h.0
        (shown p h.1 n ts) (shown q h.2 n ts)
    shown (part p k) h n ts = seq_shown (reads S n p) (λ x. reads S n (k x)) ts (cursor S p ts)
        (λ x. cursor S (k x.0) x.1) (shown p h.0 n ts) (λ x. shown (k x.0) (h.1 x.0) n x.1)
    shown {A} (symbol r) h n ts = symbols A r n ts
    shown (spanned p) h n ts = spans_shown p (reads S n p) ts (shown p h n ts)
    shown (scalar k) h n ts = seq_shown (literal S) (λ v. reads S n (k v)) ts (scalar_read S ts)
        (λ v. cursor S (k v.0) v.1) (inr (scalar_seen S ts)) (λ x. shown (k x.0) (h x.0) n x.1)
    shown (closed close p k) h n ts =
        let f = λ (m : ℕ). many close (reads S m p) m in
        closed_shown (f n ts) (seen (fully f ts)) (λ r. reads S n (k r.0 r.1.span)) (λ r. cursor S (k r.0.0 r.0.1) r.1)
        (enough f h.0 n ts) (λ x. shown (k x.0.0 x.0.1.span) (h.1 x.0.0 x.0.1.span) n x.1)
    shown (each test p k) h n ts =
        let f = λ (m : ℕ). repeated test (reads S m p) m in
        seq_shown (f n) (λ xs. reads S n (k xs)) ts (seen (fully f ts)) (λ r. cursor S (k r.0) r.1) (enough f h.0 n ts)
        (λ x. shown (k x.0) (h.1 x.0) n x.1)

    -- with enough fuel
    pub shown_fully : {A : Type 0} (p : Steps C A) → Fits p → Answers (λ n. reads S n p) → (ts : List Lexeme)
        → seen (fully (λ n. reads S n p) ts) ≡ cursor S p ts
    unfolding fully
    shown_fully p h w ts = elim (shown p h (suc (length ts)) ts)
        [ inl e ↦ absurd (w.at (suc (length ts)) ts (omega arith) e) | inr e ↦ e ]
