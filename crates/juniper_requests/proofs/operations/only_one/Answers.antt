use Rattle.std.proofs.Common.{arith}
use Rattle.std.proofs.lemmas.Grind.{common_steps}
use Rattle.juniper_requests.proofs.operations.only_one.Goals as goal

pub returns-then-is_some : goal.returns-then-is_some
returns-then-is_some g c = grind (arith, common_steps)

pub loop-definition-preserved : goal.loop-definition-preserved
loop-definition-preserved g c = grind (arith, common_steps)

pub returns : goal.returns
returns g c = grind (arith, common_steps)
