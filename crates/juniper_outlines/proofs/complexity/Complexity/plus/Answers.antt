use Rattle.std.proofs.Common.{rules}
use Rattle.juniper_outlines.proofs.complexity.Complexity.plus.Goals as goal

pub returns : goal.returns
returns c = search rules
