use Rattle.juniper_values.proofs.Writing.{called}
use Rattle.juniper_values.proofs.escapes.write_part.Goals as goal

pub returns : goal.returns
returns g c = called _ _ _ c.args.text.now _ c.write_str.ensures.ok
