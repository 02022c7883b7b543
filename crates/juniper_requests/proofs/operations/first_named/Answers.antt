use Rattle.std.proofs.Common.{arith}
use Rattle.std.proofs.lemmas.Grind.{common_steps}
use Rattle.juniper_requests.proofs.operations.first_named.Goals as goal

pub returns-then-has_name : goal.returns-then-has_name
returns-then-has_name g c = grind (arith, common_steps)

pub loop-definition-preserved : goal.loop-definition-preserved
loop-definition-preserved g c = grind (arith, common_steps)

pub returns : goal.returns
returns g c = grind (arith, common_steps)
