use Rattle.std.proofs.Common.{◌≡◌, ℕ, true, List, [], ◌∷◌, ◌++◌, refl, sym, ap, ◌∙◌, append_assoc}
use Rattle.std.specs.Prelude.{nat_eq, codes, Option, Some, None}
use Rattle.std.specs.Option.{is_none, unwrap_or}
use Rattle.std.proofs.lemmas.List.{flat_map_more}
use Rattle.std.specs.Cmp.Lexicographic.{pointwise, bytes_decides}
use Rattle.std.specs.Str.{chars, IsUtf8}
use Rattle.std.proofs.lemmas.Str.{encodes-chars, encodes-append, encodes_same, IsUtf8-string_bytes}
use Rattle.std.specs.String.{string_bytes}
use Rattle.std.specs.declared.string.String.{String}
use Rattle.std.proofs.lemmas.Bool.Decides.{same_from_decides}
use lib.Utf8.{encode, encodes}
use Rattle.graphql_lexical.specs.declared.kind.Kind.{Kind}
use Rattle.graphql_lexical.specs.Kinds.{UnknownEscapeSequence, same_kind, spelling, fixed_text}
use Rattle.graphql_lexical.specs.declared.kind.Kind.TheVariants.{Name}
use Rattle.graphql_lexical.specs.device.Whole.{text_of}
use Rattle.graphql_lexical.proofs.Public.{kind_is}
use Rattle.graphql_lexical.specs.Tokens.{mark}
use Rattle.graphql_lexical.specs.Display.{quoted, escape, escaped, error_text as lexical_text}
use Rattle.juniper_tokens.specs.Errors.{error_text, UnexpectedToken}
use Rattle.juniper_tokens.specs.Tokens.{kind_text}
use Rattle.juniper_tokens.specs.Cursor.{has_text}

-- texts of the same characters have the same bytes
pub chars_injective : (xs ys : List ℕ) → IsUtf8 xs → IsUtf8 ys → chars xs ≡ chars ys → xs ≡ ys
chars_injective xs ys u v e = sym (encodes-chars xs u) ∙ ap encodes e ∙ encodes-chars ys v

pub pointwise-chars : (xs ys : List ℕ) → IsUtf8 xs → IsUtf8 ys
    → pointwise nat_eq xs ys ≡ pointwise nat_eq (chars xs) (chars ys)
pointwise-chars xs ys u v =
    same_from_decides (pointwise nat_eq xs ys) (pointwise nat_eq (chars xs) (chars ys))
    (bytes_decides xs ys) (
      (λ e. chars_injective xs ys u v ((bytes_decides (chars xs) (chars ys)).0 e)),
      (λ e. (bytes_decides (chars xs) (chars ys)).1 (ap chars e)),
    )

-- quotes round a text, as bytes
pub encodes-quoted : (before bs after : List ℕ) → IsUtf8 bs
    → encodes (before ++ quoted (chars bs) ++ after) ≡ encodes before ++ (34 ∷ (bs ++ 34 ∷ encodes after))
unfolding encode
encodes-quoted before bs after u = simp (encodes-append, encodes-chars bs u, append_assoc)

pub encodes-quoted_last : (before bs : List ℕ) → IsUtf8 bs
    → encodes (before ++ quoted (chars bs)) ≡ encodes before ++ (34 ∷ (bs ++ 34 ∷ []))
unfolding encode
encodes-quoted_last before bs u = simp (encodes-append, encodes-chars bs u, append_assoc)

pub unknown_escape-text : (bs : List ℕ) → IsUtf8 bs
    → codes "Unknown escape sequence \"" ++ (bs ++ codes "\" in string")
    ≡ encodes (lexical_text (UnknownEscapeSequence (chars bs)))
unfolding encode
unknown_escape-text bs u = sym (encodes-quoted (codes "Unknown escape sequence ") bs (codes " in string") u)

pub unexpected_token-text : (bs : List ℕ) → IsUtf8 bs
    → codes "Unexpected \"" ++ (bs ++ codes "\"") ≡ encodes (error_text (UnexpectedToken (chars bs)))
unfolding encode
unexpected_token-text bs u = sym (encodes-quoted_last (codes "Unexpected ") bs u)

-- one character more of an escaped text
pub escaped_more : (cs : List ℕ) (c : ℕ) → encodes (escaped cs) ++ encodes (escape c) ≡ encodes (escaped (cs ++ c ∷ []))
escaped_more cs c = sym (encodes-append (escaped cs) (escape c)) ∙ ap encodes (flat_map_more escape [] cs c)

pub quoted-bytes : (cs : List ℕ) → (34 ∷ []) ++ (encodes (escaped cs) ++ (34 ∷ [])) ≡ encodes (quoted (escaped cs))
unfolding encode
quoted-bytes cs = ap (λ l. 34 ∷ l) (sym (encodes-append (escaped cs) (34 ∷ [])))

pub marked-bytes : (cs : List ℕ) → mark ++ (encodes cs ++ mark) ≡ encodes (mark ++ (cs ++ mark))
unfolding encode
marked-bytes cs = ap (λ l. mark ++ l) (sym (encodes-append cs mark))

-- the characters of a String that holds the bytes of those characters
pub chars-from_bytes : {Z : Type 0} (s : String Z) (cs : List ℕ) → string_bytes s ≡ encodes cs
    → chars (string_bytes s) ≡ cs
chars-from_bytes s cs e = encodes_same _ _ (encodes-chars _ (IsUtf8-string_bytes s) ∙ e)

-- of a kind that leaves the text open
-- a Name's text is the whole of it
pub whole_name : (kind : Kind) (text : List ℕ) → same_kind kind Name ≡ true → text ≡ text_of kind text
whole_name kind text e = ap (λ (k : Kind). text_of k text) (sym (kind_is kind Name e))

-- a Name has a text
pub name_has_text : (kind : Kind) → same_kind kind Name ≡ true → has_text kind ≡ true
name_has_text kind e = ap has_text (kind_is kind Name e)

pub open_text : (kind : Kind) (text : List ℕ) → has_text kind ≡ true → text ≡ kind_text kind text
open_text kind text e = by_spelling (fixed_text (spelling kind)) e
  where
    by_spelling : (o : Option (List ℕ)) → is_none o ≡ true → text ≡ unwrap_or o text
    by_spelling None p = refl
    by_spelling (Some t) p = absurd (cc p)
