use Rattle.std.proofs.Common.{rules}
use Rattle.std.proofs.Output.{has_written_of_eq}
use Rattle.juniper_values.proofs.Texts.{encodes-quoted}
use Rattle.juniper_values.proofs.text.write_quoted.Goals as goal

pub returns : goal.returns
returns g c p ok = has_written_of_eq _ _ _ _ _ (encodes-quoted c.args.text.now c.utf8.text) (search rules)
