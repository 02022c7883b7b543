use Rattle.std.proofs.Common.{rules}
use Rattle.std.proofs.Output.{has_written_of_eq}
use Rattle.juniper_answers.proofs.Keys.{encodes-key}
use Rattle.juniper_answers.proofs.display.write_key.Goals as goal

pub returns : goal.returns
returns g c p ok = has_written_of_eq _ _ _ _ _ (encodes-key c.args.key.now c.utf8.key) (search rules)
