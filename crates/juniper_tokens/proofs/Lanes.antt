-- From the lanes of one load to the bytes of a run.
use Rattle.std.proofs.Common.{◌≡◌, ℕ, zero, suc, ◌+◌, ◌%◌, ◌^◌, ◌<◌, ◌≤◌, Bool, true, false, not, ◌||◌, List, [], ◌∷◌, map, length, get_or, leb, Fits, w8, refl, sym, ap, ◌∙◌, subst, arith}
use Rattle.std.proofs.lemmas.Bool.{agree_below, agree_below_at}
use Rattle.std.proofs.lemmas.Simd.{map-map, mask_l-mod, length-chunk, first_set_mask_l, run_in_chunk_le, run_in_chunk_fails, run_in_chunk_stops}
use Rattle.std.proofs.lemmas.List.{length-map}
use Rattle.std.specs.List.{prefix_len}
use lib.Lanes.{chunk, mask_l, top}
use Rattle.juniper_tokens.specs.declared.lexer.run.Run.{Run}
use Rattle.juniper_tokens.specs.device.ByteRuns.{Walked}
use Rattle.juniper_tokens.specs.LaneMasks.{first_set}
use Rattle.juniper_tokens.specs.device.Lanes.{goes, GoesOver, GoesOverLanes}
use Rattle.juniper_tokens.specs.device.Walks.{run_machine}
use Rattle.juniper_tokens.proofs.ByteRuns.{walked_on}
use Rattle.juniper_tokens.proofs.Runs.{run_goes}

pub itself : (v : List ℕ) → v ≡ map (λ x. x) v
itself [] = refl
itself (x ∷ xs) = ap (λ r. x ∷ r) (itself xs)

low_byte : (x : ℕ) → x < 128 → leb 128 x ≡ false
low_byte x l = grind arith

-- The lanes z were computed one by one, by f, and r is the first whose highest bit is set: so many bytes come before
-- the first for which it is.
pub counted : (xs : List ℕ) (i r : ℕ) (z : List ℕ) → i + 16 ≤ length xs
    → r ≡ first_set (mask_l (map (top 7) z) % 2 ^ 64) 16 → (f : ℕ → ℕ) → z ≡ map f (chunk i 16 xs)
    → r ≡ prefix_len (λ x. not (top 7 (f x))) (chunk i 16 xs)
counted xs i r z within found f lanes =
    let v = chunk i 16 xs in
    let stops : ℕ → Bool = λ x. top 7 (f x) in
    let long = length-chunk i 16 xs within in
    let mask = ap (λ l. mask_l l % 2 ^ 64) (ap (map (top 7)) lanes ∙ map-map (top 7) f v)
    ∙ mask_l-mod (map stops v) 64 (omega (arith, length-map v stops, long)) in
    found ∙ (ap (λ m. first_set m 16) mask ∙ first_set_mask_l stops v 16 long (omega arith))

module _ (run : Run) (xs : List ℕ) (i r : ℕ) (z : List ℕ) (within : i + 16 ≤ length xs)
    (fits : (k : ℕ) → Fits w8 (get_or xs k 0)) (found : r ≡ first_set (mask_l (map (top 7) z) % 2 ^ 64) 16)
    (f : ℕ → ℕ) (lanes : z ≡ map f (chunk i 16 xs)) where
  abbrev stops : ℕ → Bool
  stops x = top 7 (f x)

  before : r ≡ prefix_len (λ x. not (stops x)) (chunk i 16 xs)
  before = counted xs i r z within found f lanes

  -- where each byte at which no lane stops is one with which the run goes on, and each ASCII byte at which one does
  -- is not
  pub over : agree_below (λ x. stops x || goes run x) (λ _. true) 256 ≡ true
      → agree_below (λ x. not (stops x) || (leb 128 x || not (goes run x))) (λ _. true) 256 ≡ true
      → GoesOverLanes run xs i r
  over all ends = (
    run_in_chunk_le stops xs i 16 r 0 within before,
    λ k from to.
        sym (ap (λ b. b || goes run (get_or xs k 0)) (run_in_chunk_fails stops xs i 16 r 0 within before k from to))
        ∙ agree_below_at (λ x. stops x || goes run x) (λ _. true) 256 (get_or xs k 0) all (fits k).fits,
    λ short low.
        by_tests (stops (get_or xs (i + r) 0)) (leb 128 (get_or xs (i + r) 0)) (goes run (get_or xs (i + r) 0))
        (run_in_chunk_stops stops xs i 16 r 0 within before short)
        (low_byte (get_or xs (i + r) 0) low)
        (agree_below_at (λ x. not (stops x) || (leb 128 x || not (goes run x))) (λ _. true) 256
        (get_or xs (i + r) 0) ends
        (fits (i + r)).fits),
  )
    where
      by_tests : (s h g : Bool) → s ≡ true → h ≡ false → (not s || (h || not g)) ≡ true → g ≡ false
      by_tests true false false e f a = refl
      by_tests true false true e f a = absurd (cc a)
      by_tests true true g e f a = absurd (cc f)
      by_tests false h g e f a = absurd (cc e)

-- A loop goes on over bytes with each of which the run does.
pub walked_over : (run : Run) (q0 : Unit {0} × ℕ) (bytes : List ℕ) (i c n : ℕ) → i + n ≤ length bytes
    → GoesOver run bytes i n → Walked (run_machine run) q0 bytes i (tt, c)
    → Walked (run_machine run) q0 bytes (i + n) (tt, c + n)
walked_over run q0 bytes i c zero within over w =
    at_once (i + 0) (c + 0) (omega arith) (omega arith) w
  where
    at_once : (j d : ℕ) → i ≡ j → c ≡ d → Walked (run_machine run) q0 bytes i (tt, c)
        → Walked (run_machine run) q0 bytes j (tt, d)
    at_once j d e f w = subst (λ k. Walked (run_machine run) q0 bytes k (tt, d)) e
        (subst (λ k. Walked (run_machine run) q0 bytes i (tt, k)) f w)
walked_over run q0 bytes i c (suc n) within over w =
    let one = walked_on (run_machine run) q0 (tt, c) (tt, c + 1) bytes i (omega (arith, within))
    (run_goes run c (get_or bytes i 0) (over i (omega arith) (omega arith))) w in
    let more = walked_over run q0 bytes (i + 1) (c + 1) n (omega (arith, within))
    (λ k from to. over k (omega (arith, from)) (omega (arith, to))) one in
    at_last (i + suc n) (c + suc n) (omega arith) (omega arith) more
  where
    at_last : (j d : ℕ) → (i + 1) + n ≡ j → (c + 1) + n ≡ d
        → Walked (run_machine run) q0 bytes ((i + 1) + n) (tt, (c + 1) + n)
        → Walked (run_machine run) q0 bytes j (tt, d)
    at_last j d e f w = subst (λ k. Walked (run_machine run) q0 bytes k (tt, d)) e
        (subst (λ k. Walked (run_machine run) q0 bytes ((i + 1) + n) (tt, k)) f w)
