-- Texts that are appended in UTF-8, one after another.
use Rattle.std.proofs.Common.{◌≡◌, ◌∙◌, ℕ, zero, suc, ◌<◌, List, [], ◌∷◌, ◌++◌, refl, sym, ap, ap₂, subst, append_assoc, append-nil, if◌then◌else◌, Result, Ok, Err, OnOk}
use Rattle.std.specs.Prelude.{encode_utf8_all, is_ok}
use Rattle.std.specs.Char.{encode_utf8}
use Rattle.std.specs.Str.{chars, IsUtf8}
use Rattle.std.specs.List.{AllByRecursion}
use Rattle.std.proofs.lemmas.Str.{encode_ascii, encodes-chars, encodes-append}
use Rattle.graphql_lexical.specs.Characters.{Text}
use Rattle.firthnapkin_results.specs.Excerpts.{spaces}

pub both_appended : (o p q : List ℕ) (s t : Text) → p ≡ o ++ encode_utf8_all s → q ≡ p ++ encode_utf8_all t
    → q ≡ o ++ encode_utf8_all (s ++ t)
both_appended o p q s t e f =
    f ∙ (ap (λ (l : List ℕ). l ++ encode_utf8_all t) e ∙ (append_assoc o (encode_utf8_all s) (encode_utf8_all t)
    ∙ ap (λ (l : List ℕ). o ++ l) (sym (encodes-append s t))))

-- the same, if the last call returns no error
pub then_appended : {T E : Type 0} (r : Result T E) (o p q : List ℕ) (s t : Text) → p ≡ o ++ encode_utf8_all s
    → OnOk r (q ≡ p ++ encode_utf8_all t) → OnOk r (q ≡ o ++ encode_utf8_all (s ++ t))
then_appended (Ok x) o p q s t e f = both_appended o p q s t e f
then_appended (Err x) o p q s t e f = tt

pub then_same : {T E : Type 0} (r : Result T E) (o q : List ℕ) (s t : Text) → s ≡ t
    → OnOk r (q ≡ o ++ encode_utf8_all s)
    → OnOk r (q ≡ o ++ encode_utf8_all t)
then_same r o q s t e = subst (λ (u : Text). OnOk r (q ≡ o ++ encode_utf8_all u)) e

pub one_appended : (o p : List ℕ) (c : ℕ) → p ≡ o ++ encode_utf8 c → p ≡ o ++ encode_utf8_all (c ∷ [])
one_appended o p c e = e ∙ ap (λ (l : List ℕ). o ++ l) (sym (append-nil (encode_utf8 c)))

bytes_appended : (o p : List ℕ) (t : Text) → encode_utf8_all t ≡ t → p ≡ o ++ t → p ≡ o ++ encode_utf8_all t
bytes_appended o p t same e = e ∙ ap (λ (l : List ℕ). o ++ l) (sym same)

pub bytes_then : {T E : Type 0} (r : Result T E) (o q : List ℕ) (t : Text) → encode_utf8_all t ≡ t → OnOk r (q ≡ o ++ t)
    → OnOk r (q ≡ o ++ encode_utf8_all t)
bytes_then (Ok x) o q t same e = bytes_appended o q t same e
bytes_then (Err x) o q t same e = tt

pub text_appended : (o p bs : List ℕ) → IsUtf8 bs → p ≡ o ++ bs → p ≡ o ++ encode_utf8_all (chars bs)
text_appended o p bs utf8 e = e ∙ ap (λ (l : List ℕ). o ++ l) (sym (encodes-chars bs utf8))

pub ascii_encoded : (t : Text) → AllByRecursion (λ c. c < 128) t → encode_utf8_all t ≡ t
ascii_encoded [] h = refl
ascii_encoded (c ∷ t) h = ap₂ (λ (l m : List ℕ). l ++ m) (encode_ascii c h.0) (ascii_encoded t h.1)

pub one_then : {T E : Type 0} (r : Result T E) (o q : List ℕ) (c : ℕ) → OnOk r (q ≡ o ++ encode_utf8 c)
    → OnOk r (q ≡ o ++ encode_utf8_all (c ∷ []))
one_then (Ok x) o q c e = one_appended o q c e
one_then (Err x) o q c e = tt

-- what `String::push` and `push_str` say, if they return no error
pub pushed : {T E : Type 0} (r : Result T E) (o p q : List ℕ) → q ≡ (if is_ok r then o ++ p else o)
    → OnOk r (q ≡ o ++ p)
pushed (Ok x) o p q e = e
pushed (Err x) o p q e = tt

pub spaces_more : (count : ℕ) → spaces count ++ 32 ∷ [] ≡ spaces (suc count)
spaces_more zero = refl
spaces_more (suc count) = ap (λ (l : Text). 32 ∷ l) (spaces_more count)
