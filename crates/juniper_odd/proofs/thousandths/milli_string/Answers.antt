use Rattle.std.proofs.Common.{◌≡◌, arith, subst, ℤ, IfOk, string_bytes}
use Rattle.std.specs.Str.{encode_utf8_all}
use Rattle.std.proofs.lemmas.Int.{ints, to_z-of_z}
use mir.Syntax.{w64}
use Rattle.juniper_odd.specs.Decimals.{milli_text}
use Rattle.juniper_odd.proofs.Places.{made}
use Rattle.juniper_odd.proofs.thousandths.milli_string.Goals as goal

pub returns : goal.returns
returns c =
    let n = c.args.number in
    made c.to_string.result n (omega (arith, ints, c.ranges.number.sfits))
    (subst (λ (m : ℤ). IfOk c.to_string.result (λ s. string_bytes s ≡ encode_utf8_all (milli_text m)))
    (to_z-of_z w64 n c.ranges.number) c.to_string.ensures.ok)
