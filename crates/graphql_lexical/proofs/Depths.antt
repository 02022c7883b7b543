-- Nesting by the tokens before and by the number of a token: the same, both ways.
use Rattle.std.proofs.Common.{◌≡◌, ℕ, suc, ◌<◌, List, [], ◌∷◌, ◌++◌, length, take, drop, refl, sym, ap, ◌∙◌, subst, arith, append_assoc}
use Rattle.std.specs.Prelude.{pos, ◌<ℤ◌, ◌≤ℤ◌}
use Rattle.std.proofs.lemmas.List.{take-append-drop, take-append-le, length-append}
use Rattle.std.proofs.Math.Seq.{take-append_seam}
use Rattle.graphql_lexical.specs.Cutting.{Lexeme}
use Rattle.graphql_lexical.specs.Nesting.{nesting, IsFirstDeeper}
use Rattle.graphql_lexical.specs.device.Indexed.{nesting_at, IsFirstDeeperAt}

-- the tokens up to the last of a front
up_to : (ts front others : List Lexeme) (n : ℕ) → ts ≡ front ++ others → n ≡ length front → take n ts ≡ front
up_to ts front others n e l = ap (take n) e ∙ ap (λ (i : ℕ). take i (front ++ others)) l ∙ take-append_seam front others

pub up_to_token : (ts before after : List Lexeme) (t : Lexeme) (i : ℕ) → ts ≡ before ++ t ∷ after → length before ≡ i
    → take (suc i) ts ≡ before ++ t ∷ []
up_to_token ts before after t i e l =
    up_to ts (before ++ t ∷ []) after (suc i) (e ∙ sym (append_assoc before (t ∷ []) after))
    (omega (arith, l, length-append before (t ∷ [])))

nothing_nested : (depth : ℕ) → nesting [] ≤ℤ pos depth
nothing_nested depth = grind arith

pub deeper_after : (depth : ℕ) (ts : List Lexeme) (i : ℕ) (t : Lexeme) (d : IsFirstDeeperAt depth ts i t)
    → IsFirstDeeper depth ts d.before t
deeper_after depth ts i t d = record {
  after = d.after;
  whole = d.whole;
  deeper = subst (λ (l : List Lexeme). pos depth <ℤ nesting l) (up_to_token ts d.before d.after t i d.whole d.number) d.deeper;
  first = by_front;
} where
  by_front : (front others : List Lexeme) → d.before ≡ front ++ others → nesting front ≤ℤ pos depth
  by_front [] others e = nothing_nested depth
  by_front (c ∷ cs) others e =
      let whole : ts ≡ (c ∷ cs) ++ (others ++ t ∷ d.after) =
      d.whole ∙ ap (λ (l : List Lexeme). l ++ t ∷ d.after) e ∙ append_assoc (c ∷ cs) others (t ∷ d.after) in
      let n = d.number in
      let less : length cs < i = omega (arith, n, ap length e, length-append (c ∷ cs) others) in
      subst (λ (l : List Lexeme). nesting l ≤ℤ pos depth) (up_to ts (c ∷ cs) (others ++ t ∷ d.after) (suc (length cs)) whole refl)
      (d.first (length cs) less)

pub after_deeper : (depth : ℕ) (ts before : List Lexeme) (t : Lexeme) → IsFirstDeeper depth ts before t
    → IsFirstDeeperAt depth ts (length before) t
after_deeper depth ts before t d = record {
  before = before;
  after = d.after;
  whole = d.whole;
  number = refl;
  deeper = subst (λ (l : List Lexeme). pos depth <ℤ nesting l) (sym (up_to_token ts before d.after t (length before) d.whole refl)) d.deeper;
  first = λ j l.
      let front : take (suc j) ts ≡ take (suc j) before =
      ap (take (suc j)) d.whole ∙ take-append-le (suc j) before (t ∷ d.after) (omega (arith, l)) in
      subst (λ (xs : List Lexeme). nesting xs ≤ℤ pos depth) (sym front)
      (d.first (take (suc j) before) (drop (suc j) before) (sym (take-append-drop (suc j) before)));
}

pub before_is : (depth : ℕ) (ts before : List Lexeme) (t : Lexeme) (d : IsFirstDeeper depth ts before t)
    → (after_deeper depth ts before t d).before ≡ before
unfolding after_deeper
before_is depth ts before t d = refl

-- ---- where it exceeds depth nowhere

pub fronts_shallow : (depth : ℕ) (ts : List Lexeme)
    → ((front others : List Lexeme) → ts ≡ front ++ others → nesting front ≤ℤ pos depth) → (i : ℕ) → i < length ts
    → nesting_at ts i ≤ℤ pos depth
fronts_shallow depth ts h i l = h (take (suc i) ts) (drop (suc i) ts) (sym (take-append-drop (suc i) ts))
