-- The text of a number of thousandths is ASCII.
use Rattle.std.proofs.Common.{◌≡◌, ℕ, ◌<◌, ◌^◌, ◌/◌, ◌%◌, ℤ, pos, negsuc, arith, [], codes, ap, ◌∙◌, Result, Ok, Err, String, string_bytes}
use Rattle.std.specs.Result.{IfOk}
use Rattle.std.specs.Str.{IsAscii, chars, encode_utf8_all}
use Rattle.std.specs.Prelude.{unsigned_abs}
use Rattle.std.proofs.lemmas.Fmt.{IsAscii-decimal}
use Rattle.std.proofs.lemmas.Str.{IsAscii-append, chars-IsAscii, encodes-IsAscii}
use Rattle.std.proofs.lemmas.Str.Ascii.{IsAscii-cons, IsAscii-nil}
use Rattle.juniper_odd.specs.Decimals.{sign, with_places, milli_text}

sign_is_ascii : (n : ℤ) → IsAscii (sign n)
sign_is_ascii (pos n) = IsAscii-nil
sign_is_ascii (negsuc n) = IsAscii-cons 45 [] (omega arith) IsAscii-nil

places_are_ascii : (n : ℕ) → n < 2 ^ 64 → IsAscii (with_places n)
places_are_ascii n l =
    IsAscii-append _ _ (IsAscii-decimal (n / 1000) (omega (arith, l)))
    (IsAscii-append (codes ".") _ (IsAscii-cons 46 [] (omega arith) IsAscii-nil)
    (IsAscii-append _ _ (IsAscii-decimal (n % 1000 / 100) (omega (arith, l)))
    (IsAscii-append _ _ (IsAscii-decimal (n % 100 / 10) (omega (arith, l)))
    (IsAscii-decimal (n % 10) (omega (arith, l))))))

pub milli_is_ascii : (n : ℤ) → unsigned_abs n < 2 ^ 64 → IsAscii (milli_text n)
milli_is_ascii n l = IsAscii-append _ _ (sign_is_ascii n) (places_are_ascii (unsigned_abs n) l)

-- what is written of it is read as it
pub made : {E A : Type 0} (r : Result (String A) E) (n : ℤ) → unsigned_abs n < 2 ^ 64
    → IfOk r (λ s. string_bytes s ≡ encode_utf8_all (milli_text n))
    → IfOk r (λ s. chars (string_bytes s) ≡ milli_text n)
made (Ok s) n l e =
    let k = milli_is_ascii n l in
    ap chars (e ∙ encodes-IsAscii (milli_text n) k) ∙ chars-IsAscii (milli_text n) k
made (Err x) n l e = tt
