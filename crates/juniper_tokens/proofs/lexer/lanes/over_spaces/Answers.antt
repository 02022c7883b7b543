use Rattle.std.proofs.Common.{ℕ, refl}
use Rattle.std.proofs.lemmas.Simd.{zip2_splat, length-chunk}
use lib.Lanes.{chunk}
use Rattle.juniper_tokens.specs.declared.lexer.run.Run.TheVariants as runs
use Rattle.juniper_tokens.proofs.Lanes.{over}
use Rattle.juniper_tokens.proofs.lexer.lanes.over_spaces.Goals as goal

pub returns : goal.returns
returns c =
    let v = chunk c.args.at 16 c.args.bytes.now in
    let long = length-chunk c.args.at 16 c.args.bytes.now c.requires in
    over runs.Spaces c.args.bytes.now c.args.at _ _ c.requires c.type_inv.bytes c.first_set.ensures _
    (zip2_splat {Y = ℕ} _ v 16 32 long) refl refl
