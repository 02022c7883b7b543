use Rattle.juniper_values.proofs.BlockIndented.{indented_alike}
use Rattle.juniper_values.proofs.laws.indented_block_strings_are_alike.Goals as goal

pub returns : goal.returns
returns c = indented_alike
