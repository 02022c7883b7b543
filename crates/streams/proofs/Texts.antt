-- Bytes that are a text.
use Rattle.std.proofs.Common.{◌≡◌, ◌⊎◌, inl, inr, ℕ, Bool, true, false, List, refl, sym, ◌∙◌}
use Rattle.std.specs.Prelude.{IsUtf8}
use Rattle.std.specs.Str.{is_utf8}
use Rattle.std.proofs.lemmas.Str.{IsUtf8-from_is_utf8, is_utf8-from_IsUtf8}

-- they are UTF-8, or not
pub utf8_or_not : (bytes : List ℕ) → IsUtf8 bytes ⊎ ¬ IsUtf8 bytes
utf8_or_not bytes = by_test (is_utf8 bytes) refl
  where
    by_test : (b : Bool) → is_utf8 bytes ≡ b → IsUtf8 bytes ⊎ ¬ IsUtf8 bytes
    by_test true e = inl (IsUtf8-from_is_utf8 bytes e)
    by_test false e = inr
        (λ utf8. let both : true ≡ false = sym (is_utf8-from_IsUtf8 bytes utf8) ∙ e in absurd (cc both))
