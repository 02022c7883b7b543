-- What is written so far of a text, and what is left of it.
use Rattle.std.proofs.Common.{◌≡◌, refl, sym, ap, subst, ◌∙◌, ℕ, Bool, true, false, List, [], ◌∷◌, ◌++◌, Option, Some}
use Rattle.std.proofs.Common.{None, option_map, append_assoc, append-nil, string_bytes, String, Global, IsUtf8}
use Rattle.std.specs.Prelude.{is_some, IsOk, OnOk, Result, Ok, Err}
use Rattle.std.specs.declared.fmt.Error.{Error}
use Rattle.std.specs.Fmt.{WritesInCalls, WritesText}
use Rattle.std.specs.Char.{encode_utf8}
use Rattle.std.specs.Str.{chars}
use Rattle.std.proofs.Output.{writes_in_calls_nil, writes_in_calls_single, writes_in_calls_append}
use Rattle.std.proofs.lemmas.Fmt.{contents_after_writes}
use Rattle.std.proofs.lemmas.Str.{encodes-append, encodes-chars, chars_from_encodes, IsUtf8-string_bytes}
use lib.Utf8.{encodes}
use Rattle.juniper_values.specs.Text.{Text}
use Rattle.juniper_values.specs.View.{text_of}

-- a text in front of another, if that is there
abbrev pub onto : Text → Option Text → Option Text
onto p o = option_map (λ u. p ++ u) o

pub onto_nothing : (o : Option Text) → onto [] o ≡ o
onto_nothing None = refl
onto_nothing (Some u) = refl

pub onto_both : (p q : Text) (o : Option Text) → onto (p ++ q) o ≡ onto p (onto q o)
onto_both p q None = refl
onto_both p q (Some u) = ap Some (append_assoc p q u)

module _ {W : Type 0} (took : W → List ℕ → W → Type 0) where
  -- The writer went from w to v while the front of a text was written: of `all`, if `rest` is left.
  pub record Written (w v : W) (all rest : Option Text) : Type 0 where
    pub done : Text
    pub wrote : WritesInCalls took w (encodes done) v
    pub whole : onto done rest ≡ all

-- one call, if it doesn't fail
pub called : {W : Type 0} (took : W → List ℕ → W → Type 0) (w v : W) (bs : List ℕ) (r : Result (Unit {0}) Error)
    → (IsOk r → took w bs v) → OnOk r (WritesInCalls took w bs v)
called took w v bs (Ok x) h = writes_in_calls_single took w bs v (h (refl {a = true}))
called took w v bs (Err e) h = tt

module _ {W : Type 0} {took : W → List ℕ → W → Type 0} where
  pub nothing_written : (w : W) (all : Option Text) → Written took w w all all
  nothing_written w all = record { done = []; wrote = writes_in_calls_nil took w; whole = onto_nothing all }

  pub same_left : {w v : W} {all rest left : Option Text} → Written took w v all rest → rest ≡ left
      → Written took w v all left
  same_left s e = record { done = s.done; wrote = s.wrote; whole = ap (onto s.done) (sym e) ∙ s.whole }

  -- one more part
  pub part_written : {w v u : W} {all rest : Option Text} (t : Text) (left : Option Text) → Written took w v all rest
      → WritesInCalls took v (encodes t) u → rest ≡ onto t left → Written took w u all left
  part_written {w} {v} {u} t left s more e = record {
    done = s.done ++ t;
    wrote = subst (λ bs. WritesInCalls took w bs u) (sym (encodes-append s.done t))
        (writes_in_calls_append took w (encodes s.done) v (encodes t) u s.wrote more);
    whole = onto_both s.done t left ∙ ap (onto s.done) (sym e) ∙ s.whole;
  }

  -- the same of its bytes
  pub text_written : {w v u : W} {all rest : Option Text} (bs : List ℕ) (left : Option Text) → Written took w v all rest
      → WritesInCalls took v bs u → IsUtf8 bs → rest ≡ onto (chars bs) left → Written took w u all left
  text_written {w} {v} {u} bs left s more utf8 e =
      part_written (chars bs) left s (subst (λ b. WritesInCalls took v b u) (sym (encodes-chars bs utf8)) more) e

  -- one more character
  pub char_called : {v u : W} (c : ℕ) (t : Text) → t ≡ c ∷ [] → took v (encode_utf8 c) u
      → WritesInCalls took v (encodes t) u
  char_called {v} {u} c t e call =
      subst (λ bs. WritesInCalls took v bs u) (sym (ap encodes e ∙ append-nil (encode_utf8 c)))
      (writes_in_calls_single took v (encode_utf8 c) u call)

  pub char_written : {w v u : W} {all rest : Option Text} (c : ℕ) (left : Option Text) → Written took w v all rest
      → took v (encode_utf8 c) u → rest ≡ onto (c ∷ []) left → Written took w u all left
  char_written c left s call e = part_written (c ∷ []) left s (char_called c (c ∷ []) refl call) e

  -- nothing is left
  pub all_written : {w v : W} {all rest : Option Text} → Written took w v all rest → rest ≡ Some []
      → WritesText took w (option_map encodes all) v
  all_written {w} {v} s e =
      subst (λ o. WritesText took w (option_map encodes o) v) (ap (onto s.done) (sym e) ∙ s.whole)
      (subst (λ t. WritesInCalls took w (encodes t) v) (sym (append-nil s.done)) s.wrote)

  pub is_whole : {w v : W} {all rest : Option Text} → Written took w v all rest → is_some all ≡ is_some rest
  is_whole {rest = None} s = ap is_some (sym s.whole)
  is_whole {rest = Some t} s = ap is_some (sym s.whole)

pub nothing_to_write : {W : Type 0} (took : W → List ℕ → W → Type 0) (w v : W) (o : Option Text) → is_some o ≡ false
    → WritesText took w (option_map encodes o) v
nothing_to_write took w v None e = tt
nothing_to_write took w v (Some t) e = absurd (cc)

-- ---- an empty `String` in which a text was written

abbrev StringTook : String Global → List ℕ → String Global → Type 0
StringTook old bs new = string_bytes new ≡ string_bytes old ++ bs

pub string_written : (s t : String Global) (text : Text) → string_bytes s ≡ []
    → WritesInCalls StringTook s (encodes text) t → text_of t ≡ text
string_written s t text none h =
    let is = contents_after_writes StringTook string_bytes (λ w bs v e. e) s (encodes text) t h in
    sym (chars_from_encodes text (string_bytes t) (IsUtf8-string_bytes t) (sym (is ∙ ap (λ b. b ++ encodes text) none)))

pub string_whole : (s t : String Global) (o : Option Text) (whole : Bool) → whole ≡ is_some o → whole ≡ true
    → string_bytes s ≡ [] → WritesText StringTook s (option_map encodes o) t → Some (text_of t) ≡ o
string_whole s t None whole e is none h = absurd (cc)
string_whole s t (Some text) whole e is none h = ap Some (string_written s t text none h)

pub none_whole : (o : Option Text) (whole : Bool) → whole ≡ is_some o → whole ≡ false → None ≡ o
none_whole None whole e is = refl
none_whole (Some text) whole e is = absurd (cc)
