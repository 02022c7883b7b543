-- The values that a map of variables has at texts.
use Rattle.std.proofs.Common.{◌≡◌, ℕ, Bool, true, false, List, Option, Some, None, option_map, if◌then◌else◌, refl}
use Rattle.std.proofs.Common.{ap, sym, ◌∙◌, bytes_eq, string_bytes, String, Global, HashMap, true≢false}
use Rattle.std.specs.HashMap.{get_by, UpdatesBy}
use Rattle.std.specs.Map.{KeepsOthers}
use Rattle.std.specs.Option.{is_some}
use Rattle.std.specs.Str.{chars, IsUtf8}
use Rattle.std.specs.String.{string_eq}
use Rattle.std.proofs.lemmas.Cmp.{nat_list_eq_equiv}
use Rattle.std.proofs.lemmas.Slice.Eq.{bytes_eq-Decides}
use Rattle.std.proofs.lemmas.Str.{IsUtf8-string_bytes}
use Rattle.graphql_grammar.specs.Tokens.{Text}
use Rattle.juniper_tokens.proofs.Public.{pointwise-chars}
use Rattle.graphql_grammar.specs.Tree.{Value}
use Rattle.juniper_values.specs.Text.{same_text}
use Rattle.juniper_values.specs.View.{text_of}
use Rattle.juniper_requests.specs.Defaults.{given_or, AreKept}

abbrev pub at_text : {V H : Type 0} → HashMap (String Global) V H → Text → Option V
at_text m t = get_by (λ k. same_text t (text_of k)) m

-- strings with the same bytes have the same characters
same_strings : (s t : String Global) → string_eq s t ≡ same_text (text_of s) (text_of t)
same_strings s t =
    pointwise-chars (string_bytes s) (string_bytes t) (IsUtf8-string_bytes s) (IsUtf8-string_bytes t)

-- a look-up by bytes is one by characters
pub by_characters : {V H : Type 0} (name : List ℕ) (m : HashMap (String Global) V H) → IsUtf8 name
    → get_by (λ k. bytes_eq name (string_bytes k)) m ≡ at_text m (chars name)
by_characters name m u =
    λ i. get_by (λ k. pointwise-chars name (string_bytes k) u (IsUtf8-string_bytes k) i) m

-- texts that are the same are equal
pub equal_texts : (a b : Text) → same_text a b ≡ true → a ≡ b
equal_texts a b = (bytes_eq-Decides a b).0

module _ {V H : Type 0} (key : String Global) (old new : HashMap (String Global) V H) (w : Option V)
    (updates : UpdatesBy string_eq (string_eq key) old new w) where
  here : (t : Text) → same_text (text_of key) t ≡ true → at_text new t ≡ w
  here t e =
      ap (at_text new) (sym (equal_texts (text_of key) t e))
      ∙ (λ i. get_by (λ k. sym (same_strings key k) i) new)
      ∙ updates.1

  elsewhere : (t : Text) → same_text (text_of key) t ≡ false → at_text new t ≡ at_text old t
  unfolding KeepsOthers
  elsewhere t e = updates.3 (λ k. same_text t (text_of k)) is_test apart
    where
      is_test : (x y : String Global) → same_text t (text_of x) ≡ true → same_text t (text_of y) ≡ string_eq x y
      is_test x y f = ap (λ s. same_text s (text_of y)) (equal_texts t (text_of x) f) ∙ sym (same_strings x y)

      apart : (k : String Global) → string_eq key k ≡ true → same_text t (text_of k) ≡ false
      apart k f =
          ap (λ s. same_text t s) (sym (equal_texts (text_of key) (text_of k) (sym (same_strings key k) ∙ f)))
          ∙ nat_list_eq_equiv.symm t (text_of key) ∙ e

  -- a map after a value was put into it
  pub put_at_text : (t : Text) → at_text new t ≡ (if same_text (text_of key) t then w else at_text old t)
  put_at_text t = by_test (same_text (text_of key) t) (here t) (elsewhere t)
    where
      by_test : (b : Bool) → (b ≡ true → at_text new t ≡ w) → (b ≡ false → at_text new t ≡ at_text old t)
          → at_text new t ≡ (if b then w else at_text old t)
      by_test true h f = h refl
      by_test false h f = f refl

-- ---- values, seen through a view

module _ {V C H : Type 0} (view : V → Value C) (name : List ℕ) (utf8 : IsUtf8 name)
    (old : HashMap (String Global) V H) where
  abbrev found_by_bytes : Option V
  found_by_bytes = get_by (λ k. bytes_eq name (string_bytes k)) old

  at_name : (t : Text) → same_text (chars name) t ≡ true → at_text old t ≡ found_by_bytes
  at_name t e = ap (at_text old) (sym (equal_texts (chars name) t e)) ∙ sym (by_characters name old utf8)

  -- what a map has at a name stays, whatever the default
  pub given_stays : (default : Option (Value C)) → true ≡ is_some found_by_bytes → (t : Text)
      → option_map view (at_text old t)
      ≡ (if same_text (chars name) t then given_or (option_map view (at_text old t)) default
      else option_map view (at_text old t))
  given_stays default has t =
      by_test (same_text (chars name) t) (at_text old t) (λ e. ap is_some (at_name t e) ∙ sym has)
    where
      by_test : (b : Bool) (o : Option V) → (b ≡ true → is_some o ≡ true)
          → option_map view o ≡ (if b then given_or (option_map view o) default else option_map view o)
      by_test true (Some v) h = refl
      by_test true None h = absurd (true≢false (sym (h refl)))
      by_test false o h = refl

  module _ (key : String Global) (new : HashMap (String Global) V H) (v : V) (is_key : string_bytes key ≡ name)
      (updates : UpdatesBy string_eq (string_eq key) old new (Some v)) (none : false ≡ is_some found_by_bytes) where
    here_or_there : (t : Text) → at_text new t ≡ (if same_text (chars name) t then Some v else at_text old t)
    here_or_there t =
        put_at_text key old new (Some v) updates t
        ∙ ap (λ bs. if same_text (chars bs) t then Some v else at_text old t) is_key

    nothing_there : (t : Text) → same_text (chars name) t ≡ true → is_some (at_text old t) ≡ false
    nothing_there t e = ap is_some (at_name t e) ∙ sym none

    -- a default is put at a name that had no value
    pub default_added : (default : Option (Value C)) → default ≡ Some (view v) → (t : Text)
        → option_map view (at_text new t)
        ≡ (if same_text (chars name) t then given_or (option_map view (at_text old t)) default
        else option_map view (at_text old t))
    default_added default e t =
        ap (option_map view) (here_or_there t)
        ∙ by_test (same_text (chars name) t) (at_text old t) (nothing_there t)
        ∙ ap (λ d. if same_text (chars name) t then given_or (option_map view (at_text old t)) d
        else option_map view (at_text old t)) (sym e)
      where
        by_test : (b : Bool) (o : Option V) → (b ≡ true → is_some o ≡ false)
            → option_map view (if b then Some v else o)
            ≡ (if b then given_or (option_map view o) (Some (view v)) else option_map view o)
        by_test true (Some w) h = absurd (true≢false (h refl))
        by_test true None h = refl
        by_test false o h = refl

    -- and the values that were given stay
    pub given_kept : AreKept (λ t. option_map view (at_text old t)) (λ t. option_map view (at_text new t))
    given_kept t w e =
        ap (option_map view) (here_or_there t)
        ∙ by_test (same_text (chars name) t) (at_text old t) (nothing_there t) e
      where
        by_test : (b : Bool) (o : Option V) → (b ≡ true → is_some o ≡ false) → option_map view o ≡ Some w
            → option_map view (if b then Some v else o) ≡ Some w
        by_test true (Some x) h f = absurd (true≢false (h refl))
        by_test true None h f = absurd (cc)
        by_test false o h f = f
