-- How values are written part by part.
use Rattle.std.proofs.Common.{◌≡◌, ◌<◌, ℕ, Bool, true, false, List, [], ◌∷◌, ◌++◌, refl, sym, ap, ◌∙◌}
use Rattle.std.proofs.Common.{append_assoc, append-nil, rules, String, Global, string_bytes}
use Rattle.std.specs.Fmt.{HasWritten, IsPlainFormatter}
use Rattle.std.specs.declared.fmt.Formatter.{Formatter}
use Rattle.std.proofs.lemmas.Grind.{put_two}
use Rattle.std.proofs.Output.{has_written_of_eq}
use Rattle.std.proofs.lemmas.Str.{encodes-append, encode_ascii}
use Rattle.std.specs.Str.{chars}
use lib.Utf8.{encode, encodes}
use Rattle.juniper_values.specs.Text.{Text}
use Rattle.juniper_values.specs.View.{text_of}
use Rattle.juniper_values.specs.Display.{separator, after_commas, joined}

-- a key and its colon
pub key-bytes : (key : String Global) (bs : List ℕ) → bs ≡ string_bytes key
    → encodes (chars bs) ++ (58 ∷ 32 ∷ []) ≡ encodes (text_of key ++ 58 ∷ 32 ∷ [])
unfolding encode
key-bytes key bs e = ap (λ x. encodes (chars x) ++ (58 ∷ 32 ∷ [])) e ∙ sym (encodes-append (text_of key) (58 ∷ 32 ∷ []))

-- what is left to write of the texts, where the first of them is the next
abbrev left : Bool → List Text → Text
left true ts = joined ts
left false ts = after_commas ts

left_more : (first : Bool) (t : Text) (ts : List Text) → left first (t ∷ ts) ≡ (separator first ++ t) ++ after_commas ts
left_more true t ts = refl
left_more false t ts = refl

left_none : (first : Bool) → left first [] ≡ []
left_none true = refl
left_none false = refl

module _ {W : Type 0} (took : W → List ℕ → W → Type 0) where
  -- a plain formatter has written the text
  abbrev pub Writes : Formatter W → Text → Formatter W → Type 0
  Writes f t g = IsPlainFormatter f → HasWritten took f (encodes t) g

  -- all of the texts but these are written, with commas between
  pub record AreWritten (f g : Formatter W) (all rest : List Text) (first : Bool) : Type 0 where
    pub done : Text
    pub wrote : HasWritten took f (encodes done) g
    pub left_is : done ++ left first rest ≡ joined all

  -- a plain formatter has written all of the texts but these
  abbrev pub TextsLeft : Formatter W → List Text → Bool → List Text → Formatter W → Type 0
  TextsLeft f all first rest g = IsPlainFormatter f → AreWritten f g all rest first

  -- two texts after one another
  two : (f g h : Formatter W) (a b : Text) → HasWritten took f (encodes a) g → HasWritten took g (encodes b) h
      → HasWritten took f (encodes (a ++ b)) h
  two f g h a b p q = put_two took f g h _ _ _ p q (sym (encodes-append a b))

module _ {W : Type 0} {took : W → List ℕ → W → Type 0} where
  -- a key that ends in `colon`, and its value
  pub key_and_value : {f g h : Formatter W} (key colon value : Text) → Writes took f (key ++ colon) g
      → Writes took g value h → Writes took f (key ++ (colon ++ value)) h
  key_and_value {f} {g} {h} key colon value first then p =
      has_written_of_eq _ _ _ _ _ (ap encodes (append_assoc key colon value))
      (two took f g h (key ++ colon) value (first p) (then (first p).plain))

  -- none of the texts is written
  pub none_written : (f : Formatter W) (all : List Text) → TextsLeft took f all true all f
  none_written f all p = record { done = []; wrote = search rules; left_is = refl }

  -- the next of the texts, after its separator
  pub next_written : {f g h k : Formatter W} {all now ts : List Text} {first : Bool} {t : Text}
      → TextsLeft took f all first now g → now ≡ t ∷ ts → Writes took g (separator first) h → Writes took h t k
      → TextsLeft took f all false ts k
  next_written {f} {g} {h} {k} {ts = ts} {first = first} {t = t} before next comma own p =
      let i = before p in
      let q = comma i.wrote.plain in
      record {
        done = i.done ++ (separator first ++ t);
        wrote = two took f g k i.done (separator first ++ t) i.wrote
            (two took g h k (separator first) t q (own q.plain));
        left_is = append_assoc i.done (separator first ++ t) (after_commas ts)
            ∙ ap (λ x. i.done ++ x) (sym (ap (left first) next ∙ left_more first t ts)) ∙ i.left_is;
      }

  -- none of the texts is left
  pub all_written : {f g : Formatter W} {all rest : List Text} {first : Bool} → TextsLeft took f all first rest g
      → rest ≡ [] → Writes took f (joined all) g
  all_written {first = first} before none p =
      let i = before p in
      has_written_of_eq _ _ _ _ _ (ap encodes (sym (append-nil i.done)
      ∙ ap (λ x. i.done ++ x) (sym (ap (left first) none ∙ left_none first)) ∙ i.left_is)) i.wrote

  -- a text between two ASCII characters
  pub between : {f g h k : Formatter W} (a b : ℕ) (t : Text) {all : Text} → a < 128 → b < 128 → all ≡ a ∷ (t ++ b ∷ [])
      → (IsPlainFormatter f → HasWritten took f (a ∷ []) g) → Writes took g t h
      → (IsPlainFormatter h → HasWritten took h (b ∷ []) k) → Writes took f all k
  between {f} {g} {h} {k} a b t la lb e opened inner closed p =
      let i = opened p in
      let j = inner i.plain in
      put_two took f g k _ _ _ i (put_two took g h k _ _ _ j (closed j.plain) refl)
      (sym (ap encodes e ∙ ap (λ x. x ++ encodes (t ++ b ∷ [])) (encode_ascii a la)
      ∙ ap (λ x. a ∷ x) (encodes-append t (b ∷ []) ∙ ap (λ x. encodes t ++ x)
      (append-nil (encode b) ∙ encode_ascii b lb))))
