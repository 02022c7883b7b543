use Rattle.std.proofs.Common.{◌≡◌, ℕ, suc, ◌+◌, ◌%◌, ◌^◌, ◌<◌, ◌≤◌, ◌↔◌, Bool, true, false, List, [], ◌∷◌, map, length, get_or, replicate, cond, leb, sym, ap, ◌∙◌, eqb-true, eq-eqb, leb-true, leb-false, refl, arith}
use Rattle.std.proofs.lemmas.List.{length-map}
use Rattle.std.proofs.lemmas.Simd.{get_or-chunk, length-chunk, map-map, mask_l-mod, none_from_empty_mask, zip2_splat_left}
use lib.Lanes.{chunk, mask_l, top, zip2}
use Rattle.firthnapkin_results.specs.ByteTables.{AreAscii}
use Rattle.firthnapkin_results.proofs.byte_table.are_ascii.Goals as goal

abbrev at_least : ℕ → ℕ → ℕ
at_least a b = cond (leb a b) 255 0

abbrev is_high : ℕ → Bool
is_high x = top 7 (at_least 128 x)

-- a lane is high where its byte is not ASCII
low : (x : ℕ) → (is_high x ≡ false) ↔ (x < 128)
low x = by_test (leb 128 x) refl
  where
    by_test : (t : Bool) → leb 128 x ≡ t → (top 7 (cond t 255 0) ≡ false) ↔ (x < 128)
    by_test true p = (λ q. absurd (cc q), λ l. absurd (omega (arith, leb-true _ _ p, l)))
    by_test false p = (λ q. leb-false _ _ p, λ l. refl)

all_low : (xs : List ℕ) → ((i : ℕ) → i < length xs → get_or xs i 0 < 128) → mask_l (map is_high xs) ≡ 0
all_low [] h = refl
all_low (x ∷ xs) h =
    let first : is_high x ≡ false = (low x).1 (h 0 (omega arith)) in
    let rest = all_low xs (λ i l. h (suc i) (omega (arith, l))) in
    rw first (omega (arith, rest))

-- the mask of sixteen bytes
mask_is : (bytes : List ℕ) (at : ℕ) → at + 16 ≤ length bytes
    → mask_l (map (top 7) (zip2 at_least (replicate 16 128) (chunk at 16 bytes))) % 2 ^ 64 ≡ mask_l
    (map is_high (chunk at 16 bytes))
mask_is bytes at within =
    let v = chunk at 16 bytes in
    let long = length-chunk at 16 bytes within in
    let lanes : map (top 7) (zip2 at_least (replicate 16 128) v) ≡ map is_high v =
    ap (map (top 7)) (zip2_splat_left at_least 128 16 v long) ∙ map-map (top 7) (at_least 128) v in
    let few : length (map is_high v) ≤ 64 = omega (arith, length-map v is_high, long) in
    ap (λ l. mask_l l % 2 ^ 64) lanes ∙ mask_l-mod (map is_high v) 64 few

is_empty : (bytes : List ℕ) (at : ℕ) → at + 16 ≤ length bytes
    → (mask_l (map is_high (chunk at 16 bytes)) ≡ 0) ↔ AreAscii bytes at (at + 16)
is_empty bytes at within = (
  λ empty k from to. (low (get_or bytes k 0)).0 (none_from_empty_mask is_high bytes at 16 0 within empty k from to),
  λ ascii. all_low (chunk at 16 bytes) (λ i l.
      let inside : i < 16 = omega (arith, length-chunk at 16 bytes within, l) in
      omega (arith, get_or-chunk at 16 bytes i 0 inside, ascii (at + i) (omega arith) (omega arith))),
)

pub returns : goal.returns
returns c =
    let bytes = c.args.bytes.now in
    let at = c.args.at in
    let mask = mask_is bytes at c.requires in
    let empty = is_empty bytes at c.requires in
    (λ none. empty.0 (sym mask ∙ eqb-true _ _ none), λ ascii. eq-eqb _ _ (mask ∙ empty.1 ascii))
