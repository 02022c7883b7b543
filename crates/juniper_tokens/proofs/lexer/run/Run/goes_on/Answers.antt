use Rattle.std.proofs.Common.{arith}
use Rattle.std.proofs.lemmas.Grind.{common_steps}
use Rattle.juniper_tokens.proofs.lexer.run.Run.goes_on.Goals as goal

pub returns-in-Name : goal.returns-in-Name
returns-in-Name c = grind (arith, common_steps)

pub returns-in-Digits : goal.returns-in-Digits
returns-in-Digits c = grind (arith, common_steps)

pub returns-then-not-is_inner : goal.returns-then-not-is_inner
returns-then-not-is_inner c = grind (arith, common_steps)

pub returns-else-not-is_inner : goal.returns-else-not-is_inner
returns-else-not-is_inner c = grind (arith, common_steps)

pub returns-then-not-is_inner-2 : goal.returns-then-not-is_inner-2
returns-then-not-is_inner-2 c = grind (arith, common_steps)

pub returns-else-not-is_inner-2 : goal.returns-else-not-is_inner-2
returns-else-not-is_inner-2 c = grind (arith, common_steps)

pub returns-then-not-is_inner-3 : goal.returns-then-not-is_inner-3
returns-then-not-is_inner-3 c = grind (arith, common_steps)

pub returns-else-not-is_inner-3 : goal.returns-else-not-is_inner-3
returns-else-not-is_inner-3 c = grind (arith, common_steps)

pub returns-then-not-is_inner-4 : goal.returns-then-not-is_inner-4
returns-then-not-is_inner-4 c = grind (arith, common_steps)

pub returns-else-not-is_inner-4 : goal.returns-else-not-is_inner-4
returns-else-not-is_inner-4 c = grind (arith, common_steps)

pub returns-in-Spaces : goal.returns-in-Spaces
returns-in-Spaces c = grind (arith, common_steps)
