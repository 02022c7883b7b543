-- What stands where the steps of a token have stopped.
use Rattle.std.proofs.Common.{◌≡◌, ℕ, ◌≤◌, ◌<◌, ◌==◌, true, false, cond, List, [], ◌∷◌, length, drop, get_or, refl, sym, ap, ◌∙◌, arith}
use Rattle.std.specs.Str.{chars, IsUtf8}
use Rattle.std.proofs.lemmas.Str.{encodes-chars}
use Rattle.graphql_lexical.specs.Characters.{is_digit}
use Rattle.graphql_lexical.specs.declared.kind.Kind.TheVariants.{Int}
use Rattle.graphql_lexical.specs.Kinds.{UnexpectedCharacter}
use Rattle.graphql_lexical.specs.device.Scan.{found, missed, after_zero}
use Rattle.juniper_tokens.proofs.EscapeFaults.{stands_after}
use Rattle.juniper_tokens.proofs.Runs.{FirstByte, low, high, first_byte}

none_of : (cs : List ℕ) → length cs ≤ 0 → cs ≡ []
none_of [] l = refl
none_of (c ∷ cs) l = absurd (omega (arith, l))

some_of : (cs : List ℕ) → 0 < length cs → cs ≡ get_or cs 0 0 ∷ drop 1 cs
some_of [] l = absurd (omega (arith, l))
some_of (c ∷ cs) l = refl

pub nothing_stands : (rest : List ℕ) → IsUtf8 rest → (length rest == 0) ≡ true → chars rest ≡ []
nothing_stands rest u e = none_of (chars rest) (stands_after 0 (chars rest) rest true u refl e)

pub something_stands : (rest : List ℕ) → IsUtf8 rest → (length rest == 0) ≡ false
    → chars rest ≡ get_or (chars rest) 0 0 ∷ drop 1 (chars rest)
something_stands rest u e = some_of (chars rest) (stands_after 0 (chars rest) rest false u refl e)

-- ---- after a zero, by the first byte

high_no_digit : (c : ℕ) → 128 ≤ c → is_digit c ≡ false
high_no_digit c l = grind arith

goes_on : (n : ℕ) (text cs : List ℕ) (b : ℕ) → FirstByte cs b → is_digit b ≡ true
    → after_zero n text cs ≡ missed n (UnexpectedCharacter b)
goes_on n text [] b x e = elim x [ ]
goes_on n text (c ∷ cs) _ (low l) e = ap (λ d. cond d (missed n (UnexpectedCharacter c)) (found n Int text)) e
goes_on n text (c ∷ cs) b (high l h) e = absurd (cc (e, high_no_digit b (omega (arith, h))))

ends : (n : ℕ) (text cs : List ℕ) (b : ℕ) → FirstByte cs b → is_digit b ≡ false
    → after_zero n text cs ≡ found n Int text
ends n text [] b x e = elim x [ ]
ends n text (c ∷ cs) _ (low l) e = ap (λ d. cond d (missed n (UnexpectedCharacter c)) (found n Int text)) e
ends n text (c ∷ cs) b (high l h) e =
    ap (λ d. cond d (missed n (UnexpectedCharacter c)) (found n Int text)) (high_no_digit c l)

module _ (n : ℕ) (text rest bytes : List ℕ) (u : IsUtf8 rest) (same : bytes ≡ rest) where
  pub zero_at_end : (length bytes == 0) ≡ true → after_zero n text (chars rest) ≡ found n Int text
  zero_at_end e = ap (after_zero n text) (nothing_stands rest u (ap (λ t. length t == 0) (sym same) ∙ e))

  module _ (some : 0 < length bytes) where
    first : FirstByte (chars rest) (get_or bytes 0 0)
    first = first_byte (chars rest) bytes (same ∙ sym (encodes-chars rest u)) some

    pub zero_goes_on : is_digit (get_or bytes 0 0) ≡ true
        → after_zero n text (chars rest) ≡ missed n (UnexpectedCharacter (get_or bytes 0 0))
    zero_goes_on e = goes_on n text (chars rest) (get_or bytes 0 0) first e

    pub zero_ends : is_digit (get_or bytes 0 0) ≡ false → after_zero n text (chars rest) ≡ found n Int text
    zero_ends e = ends n text (chars rest) (get_or bytes 0 0) first e
