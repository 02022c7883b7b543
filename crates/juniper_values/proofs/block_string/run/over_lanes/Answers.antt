use Rattle.std.proofs.Common.{ℕ, bit_or, refl}
use Rattle.std.proofs.lemmas.Simd.{zip2_splat, zip2_of_maps, length-chunk}
use lib.Lanes.{chunk}
use Rattle.juniper_values.proofs.BlockRuns.{over}
use Rattle.juniper_values.proofs.block_string.run.over_lanes.Goals as goal

pub returns : goal.returns
returns c =
    let v = chunk c.args.at 16 c.args.bytes.now in
    let long = length-chunk c.args.at 16 c.args.bytes.now c.requires in
    over c.args.bytes.now c.args.at _ _ c.requires c.type_inv.bytes c.first_set.ensures _
    (zip2_of_maps bit_or _ _ v
    (zip2_of_maps bit_or _ _ v (zip2_splat {Y = ℕ} _ v 16 92 long) (zip2_splat {Y = ℕ} _ v 16 10 long))
    (zip2_splat {Y = ℕ} _ v 16 13 long)) refl
