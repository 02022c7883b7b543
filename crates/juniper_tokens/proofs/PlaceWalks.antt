-- Places over bytes, a run at a time, and so many characters.
use Rattle.std.proofs.Common.{◌≡◌, ℕ, suc, ◌+◌, ◌-◌, ◌≤◌, ◌<◌, ◌⊎◌, inl, inr, true, false, cond, ◌==◌, List, [], ◌∷◌, length, take, drop, Some, None, refl, sym, ap, ap₂, subst, ◌∙◌, arith}
use Rattle.std.specs.Str.{chars, IsUtf8}
use Rattle.std.proofs.lemmas.List.{take_all, drop_all}
use Rattle.std.proofs.lemmas.Str.{encodes-chars}
use Rattle.graphql_lexical.specs.device.Machines.{reach}
use Rattle.graphql_lexical.specs.Place.{Place, past_character, next_line, next_column}
use Rattle.juniper_tokens.specs.declared.lexer.run.Run.TheVariants as run
use Rattle.juniper_tokens.specs.Positions.{columns_on}
use Rattle.juniper_tokens.specs.device.Offsets.{IsOffsetAfter}
use Rattle.juniper_tokens.specs.device.ByteRuns.{is_inner, byte_at}
use Rattle.juniper_tokens.specs.device.Walks.{run_test, place_machine, count_to, count_machine}
use Rattle.juniper_tokens.proofs.ByteRuns.{reach_bytes, in_bytes, step_once}
use Rattle.std.proofs.lemmas.Bool.{eq-eqb, ne_eqb, cases_eq}
use Rattle.juniper_tokens.proofs.LineWalks.{no_feed_in_line, no_feed_past_ascii}
use Rattle.juniper_tokens.proofs.RunWalks.{plus_none, plus_plus}

pub place_same : (p : Place) (c d : ℕ) → 128 ≤ c → 128 ≤ d → past_character p c ≡ past_character p d
place_same p c d l m =
    ap (λ b. cond b (next_line p) (next_column p)) (no_feed_past_ascii c l ∙ sym (no_feed_past_ascii d m))

pub column_on : (p : Place) (k c : ℕ) → run_test run.Line c ≡ true
    → past_character (columns_on k p) c ≡ columns_on (k + 1) p
column_on p k c e =
    ap (λ b. cond b (next_line (columns_on k p)) (next_column (columns_on k p))) (no_feed_in_line c e)
    ∙ ap₂ (λ (i j : ℕ). record { index = i; line = p.line; column = j }) (plus_plus p.index k 1)
    (plus_plus p.column k 1)

pub no_columns : (p : Place) → columns_on 0 p ≡ p
no_columns p = ap₂ (λ (i j : ℕ). record { index = i; line = p.line; column = j }) (plus_none p.index)
    (plus_none p.column)

pub place_column : (p : Place) (b : ℕ) → is_inner b ≡ false → (b == 10) ≡ false
    → place_machine (tt, p) b ≡ Some (tt, next_column p)
place_column p b e f = rw (e, f) refl

-- ---- so many characters

pub count_on : (count n b : ℕ) → is_inner b ≡ false → (n ≡ count → ⊥) → count_machine count n b ≡ Some (n + 1)
count_on count n b e f = rw (e, ne_eqb n count f) refl

pub count_stops : (count n b : ℕ) → is_inner b ≡ false → n ≡ count → count_machine count n b ≡ None
count_stops count n b e f = rw (e, eq-eqb n count f) refl

-- From n on, so many of m characters have been counted: up to the count, or all.
abbrev IsCounted : ℕ → ℕ → ℕ → ℕ × ℕ → Type 0
IsCounted count n m r = (r.1 ≡ n + r.0) × (r.0 ≤ m) × ((r.0 ≡ count - n) ⊎ (r.0 ≡ m) × (m ≤ count - n))

counted_to : (count n : ℕ) → n ≤ count → (cs : List ℕ) → IsCounted count n (length cs) (reach (count_to count) n cs)
counted_to count n l [] = (omega arith, omega arith, inr (refl, omega arith))
counted_to count n l (c ∷ cs) = elim (cases_eq n count) [
  | inl e ↦ subst (IsCounted count n (length (c ∷ cs)))
      (sym (step_once (count_to count) n cs c None (rw (eq-eqb n count e) refl)))
      (omega arith, omega arith, inl (omega (arith, e)))
  | inr e ↦ subst (IsCounted count n (length (c ∷ cs)))
      (sym (step_once (count_to count) n cs c (Some (n + 1)) (rw (ne_eqb n count e) refl)))
      (one_on (reach (count_to count) (n + 1) cs) (omega (arith, l, e))
      (counted_to count (n + 1) (omega (arith, l, e)) cs))
]
  where
    one_on : (r : ℕ × ℕ) → n < count
        → IsCounted count (n + 1) (length cs) r → IsCounted count n (length (c ∷ cs)) (suc r.0, r.1)
    one_on r l h = (
      omega (arith, h.0),
      omega (arith, h.1),
      elim h.2 [
        | inl e ↦ inl (omega (arith, e, l))
        | inr e ↦ inr (omega (arith, e.0), omega (arith, e.1, l))
      ],
    )

pub offset_reached : (text bytes : List ℕ) (count i n : ℕ) → IsUtf8 text → bytes ≡ text
    → reach (count_machine count) 0 bytes ≡ (i, n)
    → IsOffsetAfter count (chars text) (record { bytes = i; characters = n })
offset_reached text bytes count i n u same h =
    let cs = chars text in
    let r = reach (count_to count) 0 cs in
    let both : (i, n) ≡ in_bytes cs r =
    sym h ∙ (ap (reach (count_machine count) 0) (same ∙ sym (encodes-chars text u))
    ∙ reach_bytes (count_to count) (λ q c d l m. refl) 0 cs) in
    let facts = counted_to count 0 (omega arith) cs in
    let size : n ≡ r.0 = omega (arith, ap (λ (x : ℕ × ℕ). x.1) both, facts.0) in
    record {
      offset = ap (λ (x : ℕ × ℕ). x.0) both ∙ ap (λ k. byte_at k cs) (sym size);
      front = elim facts.2 [
        | inl e ↦ ap (λ k. take k cs) (omega (arith, size, e))
        | inr e ↦ take_all n cs (omega (arith, size, e.0)) ∙ sym (take_all count cs (omega (arith, e.1)))
      ];
      rest = elim facts.2 [
        | inl e ↦ ap (λ k. drop k cs) (omega (arith, size, e))
        | inr e ↦ drop_all n cs (omega (arith, size, e.0)) ∙ sym (drop_all count cs (omega (arith, e.1)))
      ];
    }
