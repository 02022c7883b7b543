-- Where a character begins in a text.
use Rattle.std.proofs.Common.{◌≡◌, ℕ, zero, suc, ◌+◌, ◌-◌, ◌^◌, ◌≤◌, ◌<◌, Bool, true, false, ◌&&◌, List, [], ◌∷◌, ◌++◌, length, take, drop, refl, sym, ap, subst, ◌∙◌, MatchBool, None, ◌==◌, arith, length-append, take-append-drop, take-add}
use Rattle.std.specs.Str.{chars, IsUtf8, IsCharBoundary}
use Rattle.std.specs.Str.Pattern.{HasPrefixMatch, FindsTextPrefix}
use Rattle.std.specs.Cmp.{second_so}
use Rattle.std.proofs.lemmas.Bool.{eqb-true}
use Rattle.std.proofs.lemmas.Str.{encode_ascii, encodes-chars, encodes-append, chars-encodes, scalars-chars, chars-append, length-le-encodes, IsCharBoundary-at_seam}
use Rattle.std.proofs.Math.Seq.{take-append_seam, drop-append_seam}
use lib.Utf8.{scalar, scalars, encode, encodes}
use Rattle.std.proofs.lemmas.List.{length-take-le}
use Rattle.juniper_tokens.specs.device.ByteRuns.{byte_at}
use Rattle.juniper_tokens.specs.device.LexingByScan.{begins_with_mark}

and_both : (a b x : Bool) → (a && b) ≡ true → x ≡ true → (a && x) ≡ true
and_both true b x e h = h
and_both false b x e h = e

scalars_drop : (k : ℕ) (cs : List ℕ) → scalars cs ≡ true → scalars (drop k cs) ≡ true
scalars_drop zero cs e = e
scalars_drop (suc k) [] e = e
scalars_drop (suc k) (c ∷ cs) e = scalars_drop k cs (second_so (scalar c) (scalars cs) e)

scalars_take : (k : ℕ) (cs : List ℕ) → scalars cs ≡ true → scalars (take k cs) ≡ true
scalars_take zero cs e = refl
scalars_take (suc k) [] e = e
scalars_take (suc k) (c ∷ cs) e = and_both (scalar c) (scalars cs) (scalars (take k cs)) e
    (scalars_take k cs (second_so (scalar c) (scalars cs) e))

-- the bytes before and after
pub seam : (k : ℕ) (t : List ℕ) → IsUtf8 t → t ≡ encodes (take k (chars t)) ++ encodes (drop k (chars t))
seam k t u = sym (encodes-chars t u) ∙ (ap encodes (sym (take-append-drop k (chars t)))
    ∙ encodes-append (take k (chars t)) (drop k (chars t)))

-- no fewer bytes than characters
pub byte_at_least : (k : ℕ) (cs : List ℕ) → k ≤ length cs → k ≤ byte_at k cs
byte_at_least k cs l = omega (arith, length-take-le k cs l, length-le-encodes (take k cs))

pub byte_at_within : (k n : ℕ) (t : List ℕ) → IsUtf8 t → n ≡ byte_at k (chars t) → n ≤ length t
byte_at_within k n t u e = omega (
  arith,
  e,
  ap length (seam k t u),
  length-append (encodes (take k (chars t))) (encodes (drop k (chars t))),
)

pub byte_at_boundary : (k n : ℕ) (t : List ℕ) → IsUtf8 t → n ≡ byte_at k (chars t) → IsCharBoundary t n
byte_at_boundary k n t u e = subst (IsCharBoundary t) (sym e)
    (IsCharBoundary-at_seam t (encodes (take k (chars t))) (encodes (drop k (chars t))) (seam k t u)
    (drop k (chars t), (scalars_drop k (chars t) (scalars-chars t u), refl)))

pub chars_take : (k n : ℕ) (t : List ℕ) → IsUtf8 t → n ≡ byte_at k (chars t) → chars (take n t) ≡ take k (chars t)
chars_take k n t u e =
    let a = encodes (take k (chars t)) in
    ap chars (ap (λ m. take m t) e ∙ (ap (take (length a)) (seam k t u)
    ∙ take-append_seam a (encodes (drop k (chars t)))))
    ∙ chars-encodes (take k (chars t)) (scalars_take k (chars t) (scalars-chars t u))

pub chars_drop : (k n : ℕ) (t : List ℕ) → IsUtf8 t → n ≡ byte_at k (chars t) → chars (drop n t) ≡ drop k (chars t)
chars_drop k n t u e =
    let a = encodes (take k (chars t)) in
    ap chars (ap (λ m. drop m t) e ∙ (ap (drop (length a)) (seam k t u)
    ∙ drop-append_seam a (encodes (drop k (chars t)))))
    ∙ chars-encodes (drop k (chars t)) (scalars_drop k (chars t) (scalars-chars t u))

pub take_first : (c : ℕ) (cs ds : List ℕ) → cs ≡ c ∷ ds → take 1 cs ≡ c ∷ []
take_first c cs ds h = ap (take 1) h

pub chars_joined : (s a b : List ℕ) → IsUtf8 a → s ≡ a ++ b → chars s ≡ chars a ++ chars b
chars_joined s a b u e = ap chars e ∙ chars-append a b u

-- a text has no more characters than bytes
pub chars_within : (text : List ℕ) → IsUtf8 text → length (chars text) ≤ length text
chars_within text u = omega (arith, length-le-encodes (chars text), ap length (encodes-chars text u))

-- from one border to a further one
pub byte_at_on : (j g : ℕ) (cs : List ℕ) → byte_at j cs + byte_at g (drop j cs) ≡ byte_at (j + g) cs
byte_at_on j g cs =
    sym (ap (λ t. length (encodes t)) (take-add j g cs) ∙ (ap length (encodes-append (take j cs) (take g (drop j cs)))
    ∙ length-append (encodes (take j cs)) (encodes (take g (drop j cs)))))

-- so many bytes on from the one is the other
pub bytes_between : (cs : List ℕ) (j k m n : ℕ) → m ≡ byte_at j cs → n ≡ byte_at k cs → j ≤ k
    → m + byte_at (k - j) (drop j cs) ≡ n
bytes_between cs j k m n e f l =
    let sum : j + (k - j) ≡ k = omega (arith, l) in
    ap (λ b. b + byte_at (k - j) (drop j cs)) e
    ∙ (byte_at_on j (k - j) cs ∙ (ap (λ i. byte_at i cs) sum ∙ sym f))

-- what is left from there on is no longer than the text
pub fits_from : (text rest : List ℕ) (k n : ℕ) → n ≡ byte_at k (chars text) → k ≤ length (chars text)
    → n + length rest ≡ length text → length text < 2 ^ 64 → k + length rest < 2 ^ 64
fits_from text rest k n e w l fits =
    let before : length (take k (chars text)) ≡ k = length-take-le k (chars text) w in
    omega (arith, e, l, fits, length-le-encodes (take k (chars text)), before)

-- an ASCII character is one byte
pub ascii_first : (b n : ℕ) (cs : List ℕ) → b < 128 → byte_at (suc n) (b ∷ cs) ≡ suc (byte_at n cs)
ascii_first b n cs l = ap (λ t. length (t ++ encodes (take n cs))) (encode_ascii b l)

-- ---- a byte order mark

abbrev mark_bytes : List ℕ
mark_bytes = 239 ∷ 187 ∷ 191 ∷ []

mark_is : encodes (65279 ∷ []) ≡ mark_bytes
unfolding encode
mark_is = refl

mark_utf8 : IsUtf8 mark_bytes
mark_utf8 = (65279 ∷ [], (refl, mark_is))

-- A byte order mark stands first where its bytes do.
pub mark_first : (r : Bool) (t : List ℕ) → IsUtf8 t
    → MatchBool r (HasPrefixMatch (FindsTextPrefix mark_bytes) t) (FindsTextPrefix mark_bytes t None)
    → r ≡ begins_with_mark (chars t)
mark_first true t u found =
    let rest = drop found.0 t in
    let is : chars mark_bytes ≡ 65279 ∷ [] = ap chars (sym mark_is) ∙ chars-encodes (65279 ∷ []) refl in
    sym (ap begins_with_mark (chars_joined t mark_bytes rest mark_utf8 found.1.1 ∙ ap (λ m. m ++ chars rest) is))
mark_first false t u lacks = by_first (chars t) refl
  where
    by_test : (c : ℕ) (cs : List ℕ) (b : Bool) → (c == 65279) ≡ b → chars t ≡ c ∷ cs → false ≡ (c == 65279)
    by_test c cs false e is = sym e
    by_test c cs true e is =
        let whole : chars t ≡ (65279 ∷ []) ++ cs = is ∙ ap (λ k. k ∷ cs) (eqb-true c 65279 e) in
        absurd (lacks (encodes cs)
        (sym (encodes-chars t u) ∙ ap encodes whole ∙ encodes-append (65279 ∷ []) cs
        ∙ ap (λ m. m ++ encodes cs) mark_is))

    by_first : (cs : List ℕ) → chars t ≡ cs → false ≡ begins_with_mark cs
    by_first [] e = refl
    by_first (c ∷ cs) e = by_test c cs (c == 65279) refl e
