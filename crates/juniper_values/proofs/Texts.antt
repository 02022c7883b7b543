-- Texts and their bytes.
use Rattle.std.proofs.Common.{◌≡◌, sym, ap, ◌∙◌, ℕ, List, [], ◌∷◌, ◌++◌, bytes_eq, string_bytes, String, Global, HashMap, Option}
use Rattle.std.specs.Prelude.{codes}
use Rattle.std.specs.HashMap.{get_by}
use Rattle.std.specs.Str.{chars, IsUtf8}
use Rattle.std.proofs.lemmas.Str.{encodes-chars, encodes-append, IsUtf8-string_bytes}
use lib.Utf8.{encode, encodes}
use Rattle.graphql_lexical.specs.Display.{quoted}
use Rattle.juniper_tokens.proofs.Public.{pointwise-chars}
use Rattle.juniper_values.specs.Text.{same_text}
use Rattle.juniper_values.specs.ScalarDisplay.{wanted_text}
use Rattle.juniper_values.specs.View.{text_of}

-- strings of the same characters have the same bytes
pub same_text-strings : (s t : String Global)
    → same_text (text_of s) (text_of t) ≡ bytes_eq (string_bytes s) (string_bytes t)
same_text-strings s t =
    sym (pointwise-chars (string_bytes s) (string_bytes t) (IsUtf8-string_bytes s) (IsUtf8-string_bytes t))

-- a look-up by a name's text is one by its bytes
pub found_by_text : {V H : Type 0} (name : String Global) (q : List ℕ) (m : HashMap (String Global) V H) (r : Option V)
    → q ≡ string_bytes name
    → r ≡ get_by (λ k. bytes_eq q (string_bytes k)) m → r ≡ get_by (λ k. same_text (text_of name) (text_of k)) m
found_by_text name q m r e found =
    found ∙ ap (λ b. get_by (λ k. bytes_eq b (string_bytes k)) m) e
    ∙ sym (λ i. get_by (λ k. same_text-strings name k i) m)

-- ---- what is written in parts

pub encodes-quoted : (bs : List ℕ) → IsUtf8 bs → 34 ∷ (bs ++ 34 ∷ []) ≡ encodes (quoted (chars bs))
unfolding encode
encodes-quoted bs u = sym (simp (encodes-append, encodes-chars bs u))

pub encodes-wanted : (name : List ℕ) → IsUtf8 name
    → codes "Expected `" ++ (name ++ codes "`, found: ") ≡ encodes (wanted_text (chars name))
unfolding encode wanted_text
encodes-wanted name u = sym (simp (encodes-append, encodes-chars name u))
