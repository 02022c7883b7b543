use Rattle.std.proofs.Common.{◌≡◌, ◌<◌, ◌^◌, ap, ◌∙◌, arith}
use Rattle.std.specs.Prelude.{unsigned_abs}
use Rattle.std.proofs.lemmas.Int.{ints, to_z-of_z}
use Rattle.std.proofs.lemmas.Str.{encodes-IsAscii}
use mir.Syntax.{w64}
use Rattle.juniper_odd.specs.Decimals.{milli_text, sign}
use Rattle.juniper_odd.proofs.Places.{milli_is_ascii}
use Rattle.juniper_odd.proofs.decimals.write_decimal.Goals as goal

pub returns : goal.returns
returns g c p ok =
    let n = c.args.number in
    let small : unsigned_abs n < 2 ^ 64 = omega (arith, ints, c.ranges.number.sfits) in
    let same = to_z-of_z w64 n c.ranges.number in
    let s : c.sign-sign.result.now ≡ sign n = c.sign-sign.ensures ∙ ap sign same in
    let v : c.unsigned_abs-places.result ≡ unsigned_abs n = c.unsigned_abs-places.ensures.value
    ∙ ap unsigned_abs same in
    rw (encodes-IsAscii (milli_text n) (milli_is_ascii n small), ← s, ← v) (c.write.ensures.writes p ok)
