use Rattle.std.proofs.Common.{rules, ◌<◌, ◌^◌, arith}
use Rattle.std.specs.Int.Signed.{mag}
use Rattle.std.proofs.lemmas.Fmt.{IsAscii-signed}
use Rattle.std.proofs.lemmas.Str.{encodes-IsAscii}
use Rattle.juniper_values.proofs.text.write_int.Goals as goal

pub returns : goal.returns
returns g c = let small : mag c.args.number < 2 ^ 63 = omega (arith, c.ranges.number.sfits) in
    rw (encodes-IsAscii _ (IsAscii-signed c.args.number small)) (search rules)
