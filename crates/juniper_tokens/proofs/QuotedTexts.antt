-- Texts between quotes.
use Rattle.std.proofs.Common.{◌≡◌, ℕ, zero, suc, ◌+◌, ◌-◌, ◌≤◌, ◌<◌, List, ◌++◌, length, take, drop, refl, sym, ap, ap₂, ◌∙◌, arith, length-append, take-append-drop, append_assoc}
use Rattle.std.proofs.Math.Seq.{take-append_seam, drop-append_seam}
use Rattle.std.proofs.lemmas.List.{length-take-le}
use Rattle.std.proofs.lemmas.Str.{encodes-append, encode_ascii}
use lib.Utf8.{encodes}
use Rattle.graphql_lexical.specs.device.Whole.{between}
use Rattle.graphql_lexical.proofs.Public.{unquoted}
use Rattle.juniper_tokens.specs.device.ByteRuns.{byte_at}
use Rattle.juniper_tokens.specs.device.Offsets.{EndsQuoted, quotes}

quotes_length : (n : ℕ) → length (quotes n) ≡ n
quotes_length zero = refl
quotes_length (suc n) = ap suc (quotes_length n)

quotes_plain : (n : ℕ) → encodes (quotes n) ≡ quotes n
quotes_plain zero = refl
quotes_plain (suc n) = ap₂ (λ (x y : List ℕ). x ++ y) (encode_ascii 34 (omega arith)) (quotes_plain n)

before_last : (width n : ℕ) (cs units : List ℕ) → n ≤ length cs → take n cs ≡ quotes width ++ (units ++ quotes width)
    → take (n - width) cs ≡ quotes width ++ units
before_last width n cs units l h =
    let front : List ℕ = quotes width ++ units in
    let last : List ℕ = quotes width ++ drop n cs in
    let both : length (take n cs) ≡ length (quotes width) + length (units ++ quotes width) =
    ap length h ∙ length-append (quotes width) (units ++ quotes width) in
    let count : n ≡ width + (length units + width) =
    omega (arith, length-take-le n cs l, both, length-append units (quotes width), quotes_length width) in
    let whole : cs ≡ front ++ last =
    sym (take-append-drop n cs) ∙ (ap (λ t. t ++ drop n cs) (h ∙ sym (append_assoc (quotes width) units (quotes width)))
    ∙ append_assoc front (quotes width) (drop n cs)) in
    let front_len : n - width ≡ length front = omega (
      arith,
      count,
      length-append (quotes width) units,
      quotes_length width,
    ) in
    ap (λ k. take k cs) front_len ∙ (ap (take (length front)) whole ∙ take-append_seam front last)

-- the border before the last quotes
pub record IsBack (cs : List ℕ) (n k : ℕ) : Type 0 where
  pub within : k + 1 ≤ n
  pub bytes : byte_at (n - k) cs + k ≡ byte_at n cs

pub string_back : (width : ℕ) (cs : List ℕ) (bytes chars : ℕ) → EndsQuoted width cs bytes chars → IsBack cs chars width
string_back width cs bytes chars e =
    let front : List ℕ = quotes width ++ e.units in
    let whole : take chars cs ≡ front ++ quotes width = e.whole
    ∙ sym (append_assoc (quotes width) e.units (quotes width)) in
    let count : chars ≡ length front + width = sym (length-take-le chars cs e.within)
    ∙ (ap length whole ∙ (length-append front (quotes width) ∙ ap (λ k. length front + k) (quotes_length width))) in
    let all : byte_at chars cs ≡ length (encodes front) + width =
    ap (λ t. length (encodes t)) whole ∙ (ap length (encodes-append front (quotes width))
    ∙ (length-append (encodes front) (encodes (quotes width))
    ∙ ap (λ k. length (encodes front) + k) (ap length (quotes_plain width) ∙ quotes_length width))) in
    record {
      within = omega (arith, count, e.some, length-append (quotes width) e.units, quotes_length width);
      bytes = ap (λ t. length (encodes t) + width) (before_last width chars cs e.units e.within e.whole) ∙ sym all;
    }

after_quotes : (width : ℕ) (units : List ℕ) → drop width (quotes width ++ units) ≡ units
after_quotes width units =
    ap (λ k. drop k (quotes width ++ units)) (sym (quotes_length width)) ∙ drop-append_seam (quotes width) units

between_quotes : (width : ℕ) (units : List ℕ) → 0 < width
    → between (quotes width) (quotes width ++ (units ++ quotes width)) ≡ units
between_quotes zero units l = absurd (omega arith)
between_quotes (suc n) units l = unquoted 34 (quotes n) units

pub unquoted_text : (width : ℕ) (cs : List ℕ) (b n : ℕ) (t : List ℕ) → EndsQuoted width cs b n
    → t ≡ drop width (take (n - width) cs)
    → t ≡ between (quotes width) (take n cs)
unquoted_text width cs b n t e h =
    h ∙ (ap (drop width) (before_last width n cs e.units e.within e.whole) ∙ (after_quotes width e.units
    ∙ (sym (between_quotes width e.units e.some) ∙ ap (between (quotes width)) (sym e.whole))))

pub first_quotes : (width : ℕ) (cs : List ℕ) (b n : ℕ) (t : List ℕ) → EndsQuoted width cs b n → t ≡ take (n - width) cs
    → width ≡ byte_at width t
first_quotes width cs b n t e h =
    let front : take width t ≡ quotes width =
    ap (take width) (h ∙ before_last width n cs e.units e.within e.whole)
    ∙ (ap (λ k. take k (quotes width ++ e.units)) (sym (quotes_length width))
    ∙ take-append_seam (quotes width) e.units) in
    sym (ap (λ x. length (encodes x)) front ∙ (ap length (quotes_plain width) ∙ quotes_length width))
