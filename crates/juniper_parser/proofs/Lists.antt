-- Lists, as readers of the grammar and as a cursor: a turn at a time.
use Rattle.std.proofs.Common.{◌≡◌, ◌<◌, ℕ, length, Bool, true, false, cond, List, [], ◌∷◌, Ok, Err, Option, Some, None, refl, ap, ◌∙◌}
use Rattle.graphql_lexical.specs.Place.{Span}
use Rattle.graphql_lexical.specs.declared.kind.Kind.{Kind}
use Rattle.graphql_lexical.specs.Kinds.{same_kind}
use Rattle.graphql_lexical.specs.Cutting.{Lexeme}
use Rattle.graphql_grammar.specs.Samples.{sample, IsSample}
use Rattle.graphql_grammar.specs.Tree.{Scalars}
use Rattle.graphql_grammar.specs.device.Reading.{of, passes, Reader, seq, done, on, pick, many, repeated, fully, Steps}
use Rattle.graphql_grammar.specs.device.Productions.{reads, several}
use Rattle.graphql_grammar.proofs.Public.{Rule, reads_answer, closed_answer, each_answer, many_law, repeats_law}
use Rattle.juniper_tokens.specs.Errors.{Error}
use Rattle.juniper_tokens.specs.Cursor.{Read, ◌>>=◌, EndsOnce, kind_at}
use Rattle.juniper_parser.specs.device.Seen.{seen}
use Rattle.juniper_parser.specs.device.Steps.{closing_at, closed_by, closed_read, each_read, cursor}
use Rattle.juniper_parser.proofs.Stepping.{bind_assoc, bind_same, seq_as, look_ended}
use Rattle.juniper_parser.proofs.Loops.{then_others, Repeats, RepeatsSome, closed_or}
use Rattle.juniper_parser.proofs.CursorGoes.{Fits, shown_fully}
use Rattle.juniper_parser.proofs.Symbols.{symbols_shown}

module _ {A : Type 0} (k : Kind) (f : Reader Error A) (rest : Reader Error (List A × Lexeme))
    (item : List Lexeme → Read A)
    (same : (ts : List Lexeme) → seen (f ts) ≡ item ts) where
  abbrev others : Reader Error (List A × Lexeme)
  others = seq f (λ x. seq rest (λ r. done (x ∷ r.0, r.1)))

  abbrev more : List Lexeme → Read (List A × Span)
  more ts = closed_by (seen (rest ts))

  closed_others : (x : A) (r : Read (List A × Lexeme))
      → closed_by (r >>= λ y. Ok ((x ∷ y.0.0, y.0.1), y.1)) ≡ then_others x (closed_by r)
  closed_others x (Ok y) = refl
  closed_others x (Err e) = refl

  others_seen : (ts : List Lexeme) → closed_by (seen (others ts)) ≡ (item ts >>= λ x. then_others x.0 (more x.1))
  unfolding done
  others_seen ts = ap closed_by (seq_as f _ ts (item ts) (λ x. seen (rest x.1) >>= λ y. Ok ((x.0 ∷ y.0.0, y.0.1), y.1))
      (same ts) (λ x. seq_as rest _ x.1 _ _ refl (λ y. refl)))
      ∙ bind_assoc (item ts) _ _ ∙ bind_same (item ts) _ _ (λ x. closed_others x.0 (seen (rest x.1)))

module _ {C : Type 0} (S : Scalars C Error) {A : Type 0} (p : Steps C A) (fits : Fits S p)
    (R : A → List Lexeme → Type 0) (rule : (n : ℕ) → Rule n (reads S n p) (reads S n p) R)
    (takes : (us : List Lexeme) (x : A) → R x us → 0 < length us) where
  item_seen : (ts : List Lexeme) → seen (fully (λ n. reads S n p) ts) ≡ cursor S p ts
  item_seen = shown_fully S (symbols_shown S) p fits (reads_answer S p R rule)

  -- a turn, where a token stands next
  pub closed_turn : (k : Kind) → passes (of k) (sample k) ≡ true → IsSample (sample k) → (t : Lexeme) (ts : List Lexeme)
      → closed_read S (of k) p (t ∷ ts) ≡ cond (same_kind t.kind k) (Ok (([], t.span), ts))
      (cursor S p (t ∷ ts) >>= λ x. then_others x.0 (closed_read S (of k) p x.1))
  unfolding closed_read on done
  closed_turn k closes is t ts =
      ap (λ r. closed_by (seen r)) (many_law (λ n. reads S n p) (reads_answer S p R rule) (of k)
      (closed_answer S p R rule takes k closes is) (t ∷ ts)) ∙ by_test (same_kind t.kind k)
    where
      by_test : (b : Bool) → closed_by (seen (pick b (λ c. done ([], c)) (others k (fully (λ n. reads S n p))
          (fully (λ n. many (of k) (reads S n p) n)) (cursor S p) item_seen) t ts))
          ≡ cond b (Ok (([], t.span), ts)) (cursor S p (t ∷ ts) >>= λ x. then_others x.0 (closed_read S (of k) p x.1))
      by_test true = refl
      by_test false = others_seen k (fully (λ n. reads S n p)) (fully (λ n. many (of k) (reads S n p) n)) (cursor S p)
          item_seen (t ∷ ts)

  -- up to a closing token of the kind k
  module _ (k : Kind) (closes : passes (of k) (sample k) ≡ true) (is : IsSample (sample k)) where
    pub closed_repeats : Repeats (closing_at k) (cursor S p) (closed_read S (of k) p)
    closed_repeats = record { unfolds = turn }
      where
        next : Bool → Span → List Lexeme → List Lexeme → Option Span × List Lexeme
        next b q us ts = cond b (Some q, us) (None, ts)

        by_kind : (b : Bool) (q : Span) (us ts : List Lexeme)
            → cond b (Ok (([], q), us)) (cursor S p ts >>= λ x. then_others x.0 (closed_read S (of k) p x.1))
            ≡ closed_or (cursor S p) (closed_read S (of k) p) (next b q us ts).0 (next b q us ts).1
        by_kind true q us ts = refl
        by_kind false q us ts = refl

        turn : (ts : List Lexeme) → EndsOnce ts → closed_read S (of k) p ts
            ≡ closed_or (cursor S p) (closed_read S (of k) p) (closing_at k ts).0 (closing_at k ts).1
        turn [] ended = absurd ended
        turn (t ∷ ts) ended = closed_turn k closes is t ts ∙ by_kind (same_kind t.kind k) t.span ts (t ∷ ts)

    pub several_repeats : RepeatsSome (closing_at k) (cursor S p) (cursor S (several k p))
    several_repeats = record { more = closed_read S (of k) p; first = λ ts. refl; repeats = closed_repeats }

  -- items as long as a token of kind k stands next
  pub each_unfolds : (k : Kind) (ts : List Lexeme) → EndsOnce ts
      → each_read S (of k) p ts ≡ cond (same_kind (kind_at ts) k)
      (cursor S p ts >>= λ d. each_read S (of k) p d.1 >>= λ ds. Ok (d.0 ∷ ds.0, ds.1)) (Ok ([], ts))
  unfolding each_read done
  each_unfolds k ts ended =
      ap seen (repeats_law (λ n. reads S n p) (reads_answer S p R rule) (of k) (each_answer S p R rule takes (of k)) ts)
      ∙ look_ended (of k) _ _ ts ended
      ∙ ap (λ (r : Read (List A)). cond (same_kind (kind_at ts) k) r (Ok ([], ts)))
      (seq_as (fully (λ n. reads S n p)) _ ts _ (λ d. each_read S (of k) p d.1 >>= λ ds. Ok (d.0 ∷ ds.0, ds.1))
      (item_seen ts) (λ d. seq_as (fully (λ n. repeated (of k) (reads S n p) n)) _ d.1 _ _ refl (λ ds. refl)))
