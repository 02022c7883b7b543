-- The bytes before characters, from one border to another.
use Rattle.std.proofs.Common.{◌≡◌, ℕ, zero, suc, ◌+◌, ◌-◌, ◌≤◌, ◌<◌, true, false, ◌⊎◌, inl, inr, List, [], ◌∷◌, ◌++◌}
use Rattle.std.proofs.Common.{length, take, drop, Some, None, if◌then◌else◌, refl, sym, ap, ap₂, subst, ◌∙◌, arith}
use Rattle.std.proofs.Common.{add-one, length-append, length-drop, take-append-drop, take-add}
use Rattle.std.specs.Str.{chars, IsUtf8, encode_utf8_all}
use Rattle.std.proofs.lemmas.Bool.Decides.{leb_tells}
use Rattle.std.proofs.lemmas.Str.{encodes-chars, encodes-append}
use Rattle.std.proofs.Math.Dec.{leb}
use Rattle.std.proofs.lemmas.List.Elements.{All-push}
use Rattle.juniper_tokens.specs.declared.lexer.text.Offset.{Offset}
use Rattle.juniper_requests.specs.Bytes.{byte_offset}
use Rattle.juniper_requests.specs.device.Offsets.{IsWithin, AreWithin, BeginsFirst}

-- the bytes of the first characters
abbrev pub before : List ℕ → ℕ → ℕ
before source k = length (encode_utf8_all (take k source))

pub inside : (source : List ℕ) (k : ℕ) → k ≤ length source → byte_offset source k ≡ Some (before source k)
inside source k l = by_test (leb_tells k (length source))
  where
    by_test : ((leb k (length source) ≡ true) × (k ≤ length source))
        ⊎ ((leb k (length source) ≡ false) × (length source < k))
        → byte_offset source k ≡ Some (before source k)
    by_test (inl h) = ap (λ b. if b then Some (before source k) else None) h.0
    by_test (inr h) = absurd (omega (arith, l, h.1))

pub outside : (source : List ℕ) (k : ℕ) → length source < k → byte_offset source k ≡ None
outside source k l = by_test (leb_tells k (length source))
  where
    by_test : ((leb k (length source) ≡ true) × (k ≤ length source))
        ⊎ ((leb k (length source) ≡ false) × (length source < k))
        → byte_offset source k ≡ None
    by_test (inl h) = absurd (omega (arith, l, h.1))
    by_test (inr h) = ap (λ b. if b then Some (before source k) else None) h.0

-- the bytes of all characters are those before a border and those after it
bytes_at : (source : List ℕ) (k : ℕ)
    → length (encode_utf8_all source) ≡ before source k + length (encode_utf8_all (drop k source))
bytes_at source k =
    ap (λ cs. length (encode_utf8_all cs)) (sym (take-append-drop k source))
    ∙ ap length (encodes-append (take k source) (drop k source))
    ∙ length-append (encode_utf8_all (take k source)) (encode_utf8_all (drop k source))

-- what is left of a text after its first characters
pub record IsRest (text rest : List ℕ) (k : ℕ) : Type 0 where
  pub utf8 : IsUtf8 rest
  pub characters : chars rest ≡ drop k (chars text)
  pub within : k ≤ length (chars text)

pub rest_bytes : (text rest : List ℕ) (k : ℕ) → IsUtf8 text → IsRest text rest k
    → length text ≡ before (chars text) k + length rest
rest_bytes text rest k u r =
    sym (ap length (encodes-chars text u)) ∙ bytes_at (chars text) k
    ∙ ap (λ n. before (chars text) k + n)
    (ap (λ cs. length (encode_utf8_all cs)) (sym r.characters) ∙ ap length (encodes-chars rest r.utf8))

-- the whole text
pub whole_rest : (text : List ℕ) → IsUtf8 text → IsRest text text 0
whole_rest text u = record { utf8 = u; characters = refl; within = omega arith }

dropped : {A : Type 0} (xs : List A) (k : ℕ) (y : A) (ys : List A) → drop k xs ≡ y ∷ ys
    → (drop (suc k) xs ≡ ys) × (suc k ≤ length xs)
dropped [] zero y ys e = absurd (cc)
dropped [] (suc k) y ys e = absurd (cc)
dropped (x ∷ xs) zero y ys e = (cc, omega arith)
dropped (x ∷ xs) (suc k) y ys e = let r = dropped xs k y ys e in (r.0, omega (arith, r.1))

-- after one more character
pub rest_after : (text rest after : List ℕ) (k c : ℕ) → IsRest text rest k → chars rest ≡ c ∷ chars after → IsUtf8 after
    → IsRest text after (k + 1)
rest_after text rest after k c r e u =
    let d = dropped (chars text) k c (chars after) (sym r.characters ∙ e) in
    record { utf8 = u; characters = rw add-one (sym d.0); within = omega (arith, d.1) }

-- a text that is at its end has no more characters
pub at_end : (text rest : List ℕ) (k index : ℕ) → IsRest text rest k → chars rest ≡ [] → k < index
    → byte_offset (chars text) index ≡ None
at_end text rest k index r e l =
    outside (chars text) index
    (omega (arith, l, r.within, length-drop k (chars text), ap length (sym r.characters ∙ e)))

-- as many characters are before what is left
pub at_rest : (text rest : List ℕ) (k : ℕ) → IsUtf8 text → IsRest text rest k
    → byte_offset (chars text) k ≡ Some (length text - length rest)
at_rest text rest k u r =
    inside (chars text) k r.within ∙ ap (λ n. Some n) (omega (arith, rest_bytes text rest k u r))

-- ---- from one border to another

some_same : {x y : ℕ} → Some x ≡ Some y → x ≡ y
some_same e = cc

joined : (source : List ℕ) (k n : ℕ) → before source k + before (drop k source) n ≡ before source (k + n)
joined source k n =
    sym (ap (λ cs. length (encode_utf8_all cs)) (take-add k n source)
    ∙ ap length (encodes-append (take k source) (take n (drop k source)))
    ∙ length-append (encode_utf8_all (take k source)) (encode_utf8_all (take n (drop k source))))

-- a character after a border, which is found after it
pub found_after : (source rest : List ℕ) (k b index m : ℕ) → k ≤ index → k ≤ length source → b ≡ before source k
    → rest ≡ drop k source → Some m ≡ byte_offset rest (index - k) → byte_offset source index ≡ Some (b + m)
found_after source rest k b index m l w e r found = by_test (leb_tells (index - k) (length rest))
  where
    at : (index - k) ≤ length rest → byte_offset source index ≡ Some (b + m)
    at h =
        let here : m ≡ before rest (index - k) = some_same (found ∙ inside rest (index - k) h) in
        let sum : k + (index - k) ≡ index = omega (arith, l) in
        inside source index (omega (arith, h, l, w, length-drop k source, ap length r))
        ∙ ap (λ n. Some n) (sym (ap₂ (λ x y. x + y) e (here ∙ ap (λ t. before t (index - k)) r)
        ∙ joined source k (index - k) ∙ ap (before source) sum))

    by_test : ((leb (index - k) (length rest) ≡ true) × ((index - k) ≤ length rest))
        ⊎ ((leb (index - k) (length rest) ≡ false) × (length rest < (index - k)))
        → byte_offset source index ≡ Some (b + m)
    by_test (inl h) = at h.1
    by_test (inr h) = absurd (cc (found ∙ outside rest (index - k) h.1))

-- no character after a border
pub none_after : (source rest : List ℕ) (k index : ℕ) → k ≤ index → k ≤ length source → rest ≡ drop k source
    → None ≡ byte_offset rest (index - k) → byte_offset source index ≡ None
none_after source rest k index l w r none = by_test (leb_tells (index - k) (length rest))
  where
    by_test : ((leb (index - k) (length rest) ≡ true) × ((index - k) ≤ length rest))
        ⊎ ((leb (index - k) (length rest) ≡ false) × (length rest < (index - k))) → byte_offset source index ≡ None
    by_test (inl h) = absurd (cc (none ∙ inside rest (index - k) h.1))
    by_test (inr h) = outside source index (omega (arith, h.1, l, w, length-drop k source, ap length r))

-- what is found is within the text
pub found_within : (text : List ℕ) (index n : ℕ) → IsUtf8 text → byte_offset (chars text) index ≡ Some n
    → n ≤ length text
found_within text index n u e = by_test (leb_tells index (length (chars text)))
  where
    by_test : ((leb index (length (chars text)) ≡ true) × (index ≤ length (chars text)))
        ⊎ ((leb index (length (chars text)) ≡ false) × (length (chars text) < index)) → n ≤ length text
    by_test (inl h) =
        let here : n ≡ before (chars text) index = some_same (sym e ∙ inside (chars text) index h.1) in
        omega (arith, here, bytes_at (chars text) index, ap length (encodes-chars text u))
    by_test (inr h) = absurd (cc (sym e ∙ outside (chars text) index h.1))

-- ---- the beginnings of lines

begins_still : (os : List Offset) (o : Offset) → BeginsFirst os → BeginsFirst (os ++ o ∷ [])
begins_still [] o h = absurd h
begins_still (x ∷ xs) o h = h

-- one line more begins after the characters before what is left
pub one_line_more : (text rest : List ℕ) (old new : List Offset) (o : Offset) → IsUtf8 text
    → IsRest text rest o.characters → o.bytes ≡ length text - length rest → new ≡ old ++ o ∷ []
    → BeginsFirst old × AreWithin (chars text) old → BeginsFirst new × AreWithin (chars text) new
one_line_more text rest old new o u r e more h =
    let here : IsWithin (chars text) o = record {
      within = r.within;
      bytes = omega (arith, e, rest_bytes text rest o.characters u r);
    } in (
      subst BeginsFirst (sym more) (begins_still old o h.0),
      subst (AreWithin (chars text)) (sym more) (All-push (IsWithin (chars text)) old o h.1 here),
    )
