-- Tables from characters to bytes.
use Rattle.std.proofs.Common.{◌≡◌, ◌∙◌, ℕ, zero, suc, ◌+◌, ◌<◌, Bool, true, false, List, [], ◌∷◌, ◌++◌, length, take, get_or, length-append, append-nil, refl, sym, ap, ap₂, add-one, arith, inl, inr, min}
use Rattle.std.specs.Prelude.{not, if◌then◌else◌, slice_get, encode_utf8_all}
use Rattle.std.specs.Str.{chars, IsUtf8, IsAscii}
use Rattle.std.specs.Char.{encode_utf8}
use Rattle.std.specs.List.{AllByRecursion}
use Rattle.std.specs.Option.{unwrap_or}
use Rattle.std.proofs.lemmas.List.{length-take}
use Rattle.std.proofs.lemmas.Option.{unwrap_or-slice_get}
use Rattle.std.proofs.lemmas.Str.{chars-IsAscii, encodes-IsAscii, encodes-chars, encode_ascii, IsAscii-take}
use Rattle.juniper_tokens.specs.device.ByteRuns.{is_inner}
use Rattle.juniper_tokens.proofs.Public.{wide, inner_low, inner_high, low_or_high}
use Rattle.firthnapkin_results.specs.ByteTables.{starts_in}
use Rattle.firthnapkin_results.specs.Positions.{bytes_before}

-- of a text that is ASCII
pub ascii_bytes : (bs : List ℕ) → IsAscii bs → (k : ℕ) → min k (length bs) ≡ bytes_before (chars bs) k
ascii_bytes bs a k =
    sym (length-take k bs)
    ∙ (ap length (sym (encodes-IsAscii (take k bs) (IsAscii-take bs k a)))
    ∙ ap (λ cs. length (encode_utf8_all (take k cs))) (sym (chars-IsAscii bs a)))

-- ---- a text of other characters

-- one byte more
by_byte : (i : Bool) (at : ℕ) (both front last : List ℕ) → both ≡ front ++ last
    → (if i then both else at ∷ both) ≡ (if i then front else at ∷ front) ++ last
by_byte true at both front last e = e
by_byte false at both front last e = ap (λ ks. at ∷ ks) e

pub starts-more : (at : ℕ) (bs : List ℕ) (b : ℕ)
    → starts_in at (bs ++ b ∷ []) ≡ starts_in at bs ++ starts_in (at + length bs) (b ∷ [])
starts-more at [] b = ap (λ k. starts_in k (b ∷ [])) (omega arith)
starts-more at (x ∷ xs) b =
    let more = starts-more (suc at) xs b in
    let same : suc at + length xs ≡ at + length (x ∷ xs) = omega arith in
    by_byte (is_inner x) at _ _ _ (more ∙ ap (λ k. starts_in (suc at) xs ++ starts_in k (b ∷ [])) same)

no_starts : (at : ℕ) (bs rest : List ℕ) → AllByRecursion (λ b. is_inner b ≡ true) bs
    → starts_in at (bs ++ rest) ≡ starts_in (at + length bs) rest
no_starts at [] rest h = ap (λ k. starts_in k rest) (omega arith)
no_starts at (b ∷ bs) rest h = rw h.0 (no_starts (suc at) bs rest h.1 ∙ ap (λ k. starts_in k rest) (omega arith))

-- where these characters begin, the first one's first byte being at a place
abbrev starts_of : ℕ → List ℕ → List ℕ
starts_of at [] = []
starts_of at (c ∷ cs) = at ∷ starts_of (at + length (encode_utf8 c)) cs

first_start : (at b : ℕ) (bs rest : List ℕ) → is_inner b ≡ false → AllByRecursion (λ b. is_inner b ≡ true) bs
    → starts_in at ((b ∷ bs) ++ rest) ≡ at ∷ starts_in (at + length (b ∷ bs)) rest
first_start at b bs rest e h = rw e (ap (λ ks. at ∷ ks) (no_starts (suc at) bs rest h
    ∙ ap (λ k. starts_in k rest) (omega arith)))

one_start : (at c : ℕ) (rest : List ℕ) → starts_in at (encode_utf8 c ++ rest)
    ≡ at ∷ starts_in (at + length (encode_utf8 c)) rest
one_start at c rest = elim (low_or_high c) [
  | inl l ↦ rw (encode_ascii c l) (first_start at c [] rest (inner_low c l) tt)
  | inr h ↦ let w = wide c h in rw w.is (first_start at w.lead w.inners rest (inner_high w.lead w.high) w.inner)
]

starts_same : (at : ℕ) (cs : List ℕ) → starts_in at (encode_utf8_all cs) ≡ starts_of at cs
starts_same at [] = refl
starts_same at (c ∷ cs) = one_start at c (encode_utf8_all cs)
    ∙ ap (λ ks. at ∷ ks) (starts_same (at + length (encode_utf8 c)) cs)

start_is : (at : ℕ) (cs : List ℕ) (k : ℕ)
    → get_or (starts_of at cs) k (at + length (encode_utf8_all cs)) ≡ at + length (encode_utf8_all (take k cs))
start_is at [] zero = refl
start_is at [] (suc k) = refl
start_is at (c ∷ cs) zero = omega arith
start_is at (c ∷ cs) (suc k) =
    let next = at + length (encode_utf8 c) in
    let all : at + length (encode_utf8_all (c ∷ cs)) ≡ next + length (encode_utf8_all cs) =
    omega (arith, length-append (encode_utf8 c) (encode_utf8_all cs)) in
    let front : next + length (encode_utf8_all (take k cs)) ≡ at + length (encode_utf8_all (c ∷ take k cs)) =
    omega (arith, length-append (encode_utf8 c) (encode_utf8_all (take k cs))) in
    ap (get_or (starts_of next cs) k) all ∙ (start_is next cs k ∙ front)

-- the table of all bytes of a text is that of its characters
pub starts_whole : (text starts : List ℕ) → IsUtf8 text → starts ≡ starts_in 0 text
    → (k : ℕ) → unwrap_or (slice_get starts k) (length text) ≡ bytes_before (chars text) k
starts_whole text starts u e k =
    let cs = chars text in
    let whole = encodes-chars text u in
    let table : starts ≡ starts_of 0 cs = e ∙ (ap (starts_in 0) (sym whole) ∙ starts_same 0 cs) in
    unwrap_or-slice_get starts k (length text)
    ∙ (ap₂ (λ ks d. get_or ks k d) table (ap length (sym whole) ∙ from_none _) ∙ (start_is 0 cs k ∙ sym (from_none _)))
  where
    from_none : (n : ℕ) → n ≡ 0 + n
    from_none n = omega arith

pub take_more : {A : Type 0} (xs : List A) (i : ℕ) (d : A) → i < length xs
    → take (suc i) xs ≡ take i xs ++ get_or xs i d ∷ []
take_more [] i d l = absurd (omega (arith, l))
take_more (y ∷ ys) zero d l = refl
take_more (y ∷ ys) (suc i) d l = ap (λ zs. y ∷ zs) (take_more ys i d (omega (arith, l)))

-- the starts in one byte more
starts_to : (bytes : List ℕ) (at d : ℕ) → at < length bytes
    → starts_in 0 (take at bytes) ++ starts_in at (get_or bytes at d ∷ []) ≡ starts_in 0 (take (at + 1) bytes)
starts_to bytes at d l =
    let front = take at bytes in
    let b = get_or bytes at d in
    let count : 0 + length front ≡ at = omega (arith, length-take at bytes, l) in
    ap (λ k. starts_in 0 front ++ starts_in k (b ∷ [])) (sym count)
    ∙ (sym (starts-more 0 front b)
    ∙ ap (starts_in 0) (sym (take_more bytes at d l) ∙ ap (λ k. take k bytes) (sym (add-one at))))

one : (i : Bool) (at : ℕ) → not i ≡ true → at ∷ [] ≡ (if i then [] else at ∷ [])
one true at n = absurd (cc n)
one false at n = refl

none : (i : Bool) (at : ℕ) → not i ≡ false → [] ≡ (if i then [] else at ∷ [])
none true at n = refl
none false at n = absurd (cc n)

-- a character begins with this byte
pub next_start : (bytes starts new : List ℕ) (at d : ℕ) → at < length bytes
    → starts ≡ starts_in 0 (take at bytes) → not (is_inner (get_or bytes at d)) ≡ true → new ≡ starts ++ at ∷ []
    → new ≡ starts_in 0 (take (at + 1) bytes)
next_start bytes starts new at d l e begins grown =
    grown ∙ (ap₂ (λ xs ys. xs ++ ys) e (one (is_inner (get_or bytes at d)) at begins) ∙ starts_to bytes at d l)

-- none does
pub same_starts : (bytes starts : List ℕ) (at d : ℕ) → at < length bytes
    → starts ≡ starts_in 0 (take at bytes) → not (is_inner (get_or bytes at d)) ≡ false
    → starts ≡ starts_in 0 (take (at + 1) bytes)
same_starts bytes starts at d l e inner =
    sym (append-nil starts) ∙ (ap₂ (λ xs ys. xs ++ ys) e (none (is_inner (get_or bytes at d)) at inner)
    ∙ starts_to bytes at d l)

-- an ASCII byte begins one
pub low_begins : (b : ℕ) → b < 128 → not (is_inner b) ≡ true
low_begins b low = ap not (inner_low b low)
