-- Ranges that stand one after another.
use Rattle.std.proofs.Common.{◌≡◌, ℕ, zero, suc, ◌<◌, ◌≤◌, List, [], ◌∷◌, ◌++◌, length, get_or, refl, arith}
use Rattle.juniper_tokens.specs.declared.token_range.TokenRange.{TokenRange}
use Rattle.juniper_tokens.specs.device.Ranges.{InOrder}

-- the character at which the last one ends, or this one where there are none
abbrev pub end_of : ℕ → List TokenRange → ℕ
end_of k [] = k
end_of k (r ∷ rs) = end_of r.end.characters rs

pub order_more : (k : ℕ) (rs : List TokenRange) (r : TokenRange) → InOrder k rs → end_of k rs ≤ r.start.characters
    → InOrder k (rs ++ r ∷ [])
order_more k [] r o l = (l, tt)
order_more k (x ∷ rs) r o l = (o.0, order_more x.end.characters rs r o.1 l)

pub end_more : (k : ℕ) (rs : List TokenRange) (r : TokenRange) → end_of k (rs ++ r ∷ []) ≡ r.end.characters
end_more k [] r = refl
end_more k (x ∷ rs) r = end_more x.end.characters rs r

-- each ends where the next one begins, or before
pub ordered : (k : ℕ) (rs : List TokenRange) (i : ℕ) (d : TokenRange) → InOrder k rs → suc i < length rs
    → (get_or rs i d).end.characters ≤ (get_or rs (suc i) d).start.characters
ordered k [] i d o l = absurd (omega (arith, l))
ordered k (r ∷ []) i d o l = absurd (omega (arith, l))
ordered k (r ∷ s ∷ rs) zero d o l = o.1.0
ordered k (r ∷ s ∷ rs) (suc i) d o l = ordered r.end.characters (s ∷ rs) i d o.1 (omega (arith, l))
