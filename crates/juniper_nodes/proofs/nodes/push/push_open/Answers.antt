use Rattle.std.proofs.Common.{arith}
use Rattle.std.proofs.lemmas.Grind.{common_steps}
use Rattle.juniper_nodes.proofs.nodes.push.push_open.Goals as goal

pub returns-clause-opened : goal.returns-clause-opened
returns-clause-opened g c = grind (arith, common_steps)
