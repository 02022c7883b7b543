use Rattle.std.proofs.Common.{arith}
use Rattle.juniper_tokens.proofs.Lines.{number_below, line_place}
use Rattle.juniper_tokens.proofs.line.place_on.Goals as goal

pub new-requires : goal.new-requires
new-requires c = omega (
  arith,
  number_below c.args.starts.now _ _ c.requires.starts c.requires.line.begins,
  c.requires.line.before,
)

pub returns : goal.returns
returns c source e w =
    rw c.new.ensures (line_place source c.args.starts.now c.args.index _ _ e w c.requires.line)
