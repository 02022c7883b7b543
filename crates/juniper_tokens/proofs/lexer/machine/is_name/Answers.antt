use Rattle.std.proofs.Common.{arith}
use Rattle.std.proofs.lemmas.Grind.{common_steps}
use Rattle.juniper_tokens.proofs.lexer.machine.is_name.Goals as goal

pub returns : goal.returns
returns c = grind (arith, common_steps)
