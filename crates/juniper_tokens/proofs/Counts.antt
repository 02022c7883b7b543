-- Letters and digits at the front of a text, counted byte by byte.
use Rattle.std.proofs.Common.{◌≡◌, ℕ, zero, suc, ◌+◌, ◌-◌, ◌≤◌, ◌<◌, ◌||◌, Bool, true, false, List, [], ◌∷◌, length, take, drop, drop-drop, get_or, get_or-drop, refl, ap, ap₂, subst, ◌∙◌, arith, length-drop}
use Rattle.std.specs.Prelude.{take_while}
use Rattle.std.specs.List.{prefix_len}
use Rattle.std.specs.Char.{is_ascii_alphanumeric}
use Rattle.std.specs.Str.{chars, IsUtf8}
use Rattle.std.proofs.lemmas.Bool.{agree_below_at}
use Rattle.std.proofs.lemmas.List.{drop_all}
use Rattle.graphql_lexical.specs.Characters.{is_letter, is_digit}
use Rattle.graphql_lexical.specs.device.Indexed.{counted}
use Rattle.juniper_tokens.specs.device.ByteRuns.{byte_at}
use Rattle.juniper_tokens.proofs.Offsets.{byte_at_on, chars_within, ascii_first}
use Rattle.juniper_tokens.proofs.Runs.{rest_bytes, FirstByte, low, high, first_byte, first_low}

abbrev is_counted : ℕ → Bool
is_counted c = is_letter c || is_digit c

-- so many at most
abbrev counted_to : ℕ → List ℕ → ℕ
counted_to n cs = length (take_while is_counted (take n cs))

more_counted : (n c : ℕ) (cs : List ℕ) → is_counted c ≡ true → counted_to (suc n) (c ∷ cs) ≡ suc (counted_to n cs)
more_counted n c cs e =
    rw e (ap (λ k. length (take k (c ∷ take n cs))) (suc_one (prefix_len is_counted (take n cs))))
  where
    suc_one : (k : ℕ) → 1 + k ≡ suc k
    suc_one k = omega arith

none_counted : (n c : ℕ) (cs : List ℕ) → is_counted c ≡ false → counted_to n (c ∷ cs) ≡ 0
none_counted zero c cs e = refl
none_counted (suc n) c cs e = rw e refl

none_left : (n : ℕ) → counted_to n [] ≡ 0
none_left zero = refl
none_left (suc n) = refl

low_counted : (c : ℕ) → is_counted c ≡ true → c < 128
low_counted c e = grind (arith, e)

high_not_counted : (c : ℕ) → 128 ≤ c → is_counted c ≡ false
high_not_counted c l = grind arith

first_not_counted : (n : ℕ) (cs : List ℕ) (b : ℕ) → FirstByte cs b → is_counted b ≡ false → counted_to n cs ≡ 0
first_not_counted n [] b x e = elim x [ ]
first_not_counted n (c ∷ cs) _ (low l) e = none_counted n c cs e
first_not_counted n (c ∷ cs) b (high l h) e = none_counted n c cs (high_not_counted c l)

pub byte_counted : (b : ℕ) → b < 256 → is_ascii_alphanumeric b ≡ is_counted b
byte_counted b l = agree_below_at is_ascii_alphanumeric is_counted 256 b refl l

-- So many have been counted.
pub record Counted (cs : List ℕ) (k : ℕ) : Type 0 where
  pub offset : k ≡ byte_at k cs
  pub left : counted cs ≡ k + counted_to (4 - k) (drop k cs)
  pub most : k ≤ 4

pub none_yet : (cs : List ℕ) → Counted cs 0
none_yet cs = record { offset = refl; left = plus_none (counted cs); most = omega arith }
  where
    plus_none : (n : ℕ) → n ≡ 0 + n
    plus_none n = omega arith

module _ (text bytes : List ℕ) (k : ℕ) (u : IsUtf8 text) (same : bytes ≡ text) (h : Counted (chars text) k) where
  abbrev cs : List ℕ
  cs = chars text

  pub all_counted : length bytes ≤ k → k ≡ counted cs
  all_counted l =
      let none : drop k cs ≡ [] = drop_all k cs (omega (arith, l, ap length same, chars_within text u)) in
      omega (arith, h.left, ap (counted_to (4 - k)) none ∙ none_left (4 - k))

  module _ (l : k < length bytes) where
    abbrev b : ℕ
    b = get_or bytes k 0

    first : FirstByte (drop k cs) b
    first =
        subst (FirstByte (drop k cs)) (get_or-drop k bytes 0 0 ∙ ap (λ i. get_or bytes i 0) (plus_none k))
        (first_byte (drop k cs) (drop k bytes) (ap (drop k) same ∙ rest_bytes text k k u h.offset)
        (omega (arith, l, length-drop k bytes)))
      where
        plus_none : (n : ℕ) → n + 0 ≡ n
        plus_none n = omega arith

    pub others_after : is_counted b ≡ false → k ≡ counted cs
    others_after e = omega (arith, h.left, first_not_counted (4 - k) (drop k cs) b first e)

    pub one_counted : k < 4 → is_counted b ≡ true → Counted cs (k + 1)
    one_counted few e =
        let ds = drop 1 (drop k cs) in
        let here : drop k cs ≡ b ∷ ds = first_low (drop k cs) b first (low_counted b e) in
        let more : counted_to (4 - k) (drop k cs) ≡ suc (counted_to (4 - (k + 1)) (drop (k + 1) cs)) =
        ap₂ counted_to (one_less k few) here ∙ (more_counted (4 - (k + 1)) b ds e
        ∙ ap (λ t. suc (counted_to (4 - (k + 1)) t)) (drop-drop 1 k cs)) in
        record {
          offset = omega (
            arith,
            h.offset,
            byte_at_on k 1 cs,
            ap (byte_at 1) here ∙ ascii_first b 0 ds (low_counted b e),
          );
          left = omega (arith, h.left, more);
          most = omega (arith, few);
        }
      where
        one_less : (n : ℕ) → n < 4 → 4 - n ≡ suc (4 - (n + 1))
        one_less n l = omega (arith, l)
