use Rattle.std.proofs.Common.{arith}
use Rattle.std.proofs.lemmas.Grind.{common_steps}
use Rattle.std.proofs.Output.{has_written_of_eq}
use Rattle.juniper_tokens.proofs.Texts.{marked-bytes}
use Rattle.std.specs.Str.{chars}
use Rattle.juniper_tokens.proofs.token.write_block.Goals as goal

pub returns : goal.returns
returns g c p ok = has_written_of_eq _ _ _ _ _ (marked-bytes (chars c.args.text.now)) (grind (arith, common_steps))
