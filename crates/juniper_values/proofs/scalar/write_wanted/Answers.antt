use Rattle.std.proofs.Common.{rules}
use Rattle.std.proofs.Output.{has_written_of_eq}
use Rattle.juniper_values.proofs.Texts.{encodes-wanted}
use Rattle.juniper_values.proofs.scalar.write_wanted.Goals as goal

pub returns : goal.returns
returns g c p ok = has_written_of_eq _ _ _ _ _ (encodes-wanted c.args.name.now c.utf8.name) (search rules)
