use Rattle.juniper_values.proofs.Units.{exactly}
use Rattle.juniper_values.proofs.laws.strings_are_unescaped.Goals as goal

pub returns : goal.returns
returns c = exactly
