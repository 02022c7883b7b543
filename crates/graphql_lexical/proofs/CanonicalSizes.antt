-- How long a canonical text is.
use Rattle.std.proofs.Common.{◌≡◌, ℕ, zero, suc, ◌+◌, ◌-◌, ◌≤◌, inl, inr, Bool, true, false, eqb, ◌&&◌, List, [], ◌∷◌, ◌++◌, length, take, drop, refl, sym, ap, ap₂, ◌∙◌, subst, arith, length-append, length-drop, take-append-drop, drop-drop, zero-le}
use Rattle.std.specs.Prelude.{encode_utf8_all, if◌then◌else◌}
use Rattle.std.proofs.lemmas.List.{length-take-le}
use Rattle.std.proofs.lemmas.Bool.Decides.{nat_tests}
use Rattle.std.proofs.lemmas.Str.{encodes-append, length-le-encodes}
use lib.Utf8.{encode}
use Rattle.graphql_lexical.specs.Place.{Place}
use Rattle.graphql_lexical.specs.Kinds.{Kind}
use Rattle.graphql_lexical.specs.Cutting.{Lexeme, Cut}
use Rattle.graphql_lexical.specs.device.Indexed.{StandsAt, CutFrom}
use Rattle.graphql_lexical.specs.Canonical.{is_parted, space_if, parting, canonical}
use Rattle.graphql_lexical.specs.Tokens.{written}
use Rattle.graphql_lexical.specs.laws.Canonical.{touching, IsHardlyLonger, bytes_of, HasCanonicalSizes, IsShortest}
use Rattle.graphql_lexical.proofs.Slices.{front_read, place_index}
use Rattle.graphql_lexical.proofs.Cuts.{stands_size}
use Rattle.graphql_lexical.proofs.Canonical.{no_text, same_canonical}
use Rattle.graphql_lexical.proofs.CutByTexts.{by_places}

-- ---- sizes of texts

-- Texts are as long as their parts; a space has length 1, and every other character at least that.
record IsSize (size : List ℕ → ℕ) : Type 0 where
  appended : (a b : List ℕ) → size (a ++ b) ≡ size a + size b
  space : size (32 ∷ []) ≡ 1
  some : (a : List ℕ) → length a ≤ size a

characters : IsSize length
characters = record { appended = length-append; space = refl; some = λ a. omega arith }

bytes : IsSize bytes_of
unfolding encode
bytes = record {
  appended = λ a b. ap length (encodes-append a b) ∙ length-append (encode_utf8_all a) (encode_utf8_all b);
  space = refl;
  some = length-le-encodes;
}

empty_size : (size : List ℕ → ℕ) → IsSize size → size [] ≡ 0
empty_size size m = let e = m.appended [] [] in omega arith

-- ---- a token and the ignored tokens before it

-- 1 if there are ignored tokens
abbrev some_ignored : ℕ → ℕ
some_ignored zero = 0
some_ignored (suc n) = 1

some_ignored_within : (n : ℕ) → some_ignored n ≤ n
some_ignored_within zero = omega arith
some_ignored_within (suc n) = omega arith

-- what is written of a token, and the ignored tokens before it, take up the source from where they stand
stands_weigh : (size : List ℕ → ℕ) → IsSize size → (source : List ℕ) (k : ℕ) (x : Lexeme) (n : ℕ)
    → (s : StandsAt source k x n)
    → some_ignored s.ignored + (size (written x.kind x.text) + size (drop n source)) ≤ size (drop k source)
stands_weigh size m source k x n s =
    let rest : List ℕ = drop k source in
    let ignored : size (take s.ignored rest) + size (drop s.ignored rest) ≡ size rest =
    sym (m.appended (take s.ignored rest) (drop s.ignored rest)) ∙ ap size (take-append-drop s.ignored rest) in
    let token : List ℕ = drop (k + s.ignored) source in
    let parts : size (take s.size token) + size (drop s.size token) ≡ size token =
    sym (m.appended (take s.size token) (drop s.size token)) ∙ ap size (take-append-drop s.size token) in
    let front : size (take s.size token) ≡ size (written x.kind x.text) =
    ap size (front_read token s.size x.kind x.text s.reads).front in
    let after_ignored : size (drop s.ignored rest) ≡ size token = ap size (drop_sum s.ignored k source) in
    let after_token : size (drop s.size token) ≡ size (drop n source) =
    ap size (drop_sum s.size (k + s.ignored) source ∙ ap (λ (i : ℕ). drop i source) (sym s.next_is)) in
    let long : length (take s.ignored rest) ≡ s.ignored = length-take-le s.ignored rest s.ignored_is.within in
    let w = some_ignored_within s.ignored in
    let some = m.some (take s.ignored rest) in
    omega arith
  where
    drop_sum : (i j : ℕ) (l : List ℕ) → drop i (drop j l) ≡ drop (j + i) l
    drop_sum i j l = drop-drop i j l

-- ---- spaces

-- a space is paid for by ignored tokens, or the neighbours touch
space_weighs : (size : List ℕ → ℕ) → IsSize size → (parted : Bool) (ignored i j : ℕ) → j ≡ i + ignored
    → size (space_if parted) ≤ some_ignored ignored + (if parted && eqb i j then 1 else 0)
space_weighs size m false ignored i j e = let z = empty_size size m in omega arith
space_weighs size m true zero i j e = by_test (eqb i j) refl
  where
    by_test : (b : Bool) → eqb i j ≡ b → size (32 ∷ []) ≤ 0 + (if b then 1 else 0)
    by_test true t = let z = m.space in omega arith
    by_test false t = absurd (let same : i ≡ j = omega arith in let g : eqb i i ≡ false = subst (λ (z : ℕ). eqb i z ≡ false) (sym same) t in grind (arith, nat_tests))
space_weighs size m true (suc ignored) i j e = let z = m.space in
    let w : 1 ≤ 1 + (if true && eqb i j then 1 else 0) = omega arith in omega arith

-- ---- whole sources

weighs_from : (size : List ℕ → ℕ) → IsSize size → (source : List ℕ) (x : Lexeme) (xs : List Lexeme) (k : ℕ)
    → k ≤ length source → (c : CutFrom source k (x ∷ xs))
    → some_ignored c.1.ignored + size (canonical (x ∷ xs)) ≤ size (drop k source) + touching (x ∷ xs)
weighs_from size m source x xs k l (n, s, inl (end, none)) =
    let text = no_text (drop (k + s.ignored) source) s.size x.kind x.text s.reads end in
    let empty : size (canonical (x ∷ xs)) ≡ 0 =
    ap (λ (ys : List Lexeme). size (written x.kind x.text ++ (parting x.kind ys ++ canonical ys))) none
    ∙ (ap₂ (λ (i : Kind) (t : List ℕ). size (written i t ++ [])) end text ∙ empty_size size m) in
    let w = stands_weigh size m source k x n s in
    omega arith
weighs_from size m source x [] k l (n, s, inr (no_end, c)) = absurd c
weighs_from size m source x (y ∷ ys) k l (n, s, inr (no_end, c)) =
    let z = stands_size source k x n l s no_end in
    let more = weighs_from size m source y ys n z.1 c in
    let w = stands_weigh size m source k x n s in
    let end : x.span.end.index ≡ n = ap (λ (p : Place). p.index) s.end ∙ place_index source n z.1 in
    let start : y.span.start.index ≡ n + c.1.ignored = ap (λ (p : Place). p.index) c.1.start
    ∙ place_index source (n + c.1.ignored) (omega (arith, c.1.ignored_is.within, length-drop n source, z.1)) in
    let space = space_weighs size m (is_parted x.kind y.kind) c.1.ignored x.span.end.index y.span.start.index
    (start ∙ ap (λ (i : ℕ). i + c.1.ignored) (sym end)) in
    let whole : size (canonical (x ∷ y ∷ ys)) ≡ size (written x.kind x.text)
    + (size (space_if (is_parted x.kind y.kind)) + size (canonical (y ∷ ys))) =
    m.appended (written x.kind x.text) (space_if (is_parted x.kind y.kind) ++ canonical (y ∷ ys))
    ∙ ap (λ (i : ℕ). size (written x.kind x.text) + i)
    (m.appended (space_if (is_parted x.kind y.kind)) (canonical (y ∷ ys))) in
    omega (arith, more, w, space, whole)

by_spaces : (size : List ℕ → ℕ) → IsSize size → (source : List ℕ) (xs : List Lexeme) → Cut source xs
    → size (canonical xs) ≤ size source + touching xs
by_spaces size m source [] c = absurd (by_places source [] c)
by_spaces size m source (x ∷ xs) c = let w = weighs_from size m source x xs 0 zero-le (by_places source (x ∷ xs) c) in omega (arith, w)

-- ---- few neighbours touch

one_at_most : (b : Bool) → (if b then 1 else 0) ≤ 1
one_at_most true = omega arith
one_at_most false = omega arith

touching_from : (source : List ℕ) (x : Lexeme) (xs : List Lexeme) (k : ℕ) → k ≤ length source
    → CutFrom source k (x ∷ xs) → touching (x ∷ xs) ≤ length source - k
touching_from source x [] k l c = omega arith
touching_from source x (y ∷ ys) k l (n, s, inl (end, none)) = absurd cc
touching_from source x (y ∷ ys) k l (n, s, inr (no_end, c)) =
    let z = stands_size source k x n l s no_end in
    let more = touching_from source y ys n z.1 c in
    let one = one_at_most (is_parted x.kind y.kind && eqb x.span.end.index y.span.start.index) in
    omega (arith, z.0, z.1, more, one)

touching_within : (source : List ℕ) (xs : List Lexeme) → Cut source xs → touching xs ≤ length source
touching_within source [] c = omega arith
touching_within source (x ∷ xs) c = let t = touching_from source x xs 0 zero-le (by_places source (x ∷ xs) c) in omega (arith, t)

-- ---- the laws

hardly_longer : (size : List ℕ → ℕ) → IsSize size → (source : List ℕ) (xs : List Lexeme) → Cut source xs
    → IsHardlyLonger size source xs
hardly_longer size m source xs c =
    let spaces = by_spaces size m source xs c in
    let t = touching_within source xs c in
    let some = m.some source in
    record { by_spaces = spaces; twice = omega (arith, spaces, t, some) }

pub has_canonical_sizes : (source : List ℕ) → HasCanonicalSizes source
has_canonical_sizes source xs c = (hardly_longer length characters source xs c, hardly_longer bytes_of bytes source xs c)

pub is_shortest : (a b : List ℕ) → IsShortest a b
is_shortest a b xs ys c d alike apart =
    let same : canonical xs ≡ canonical ys = same_canonical xs ys alike in
    let chars = by_spaces length characters b ys d in
    let bytes = by_spaces bytes_of bytes b ys d in
    (omega (arith, chars, apart, ap length same), omega (arith, bytes, apart, ap bytes_of same))
