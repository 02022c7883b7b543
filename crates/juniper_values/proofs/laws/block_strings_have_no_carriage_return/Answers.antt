use Rattle.juniper_values.proofs.BlockValues.{no_return}
use Rattle.juniper_values.proofs.laws.block_strings_have_no_carriage_return.Goals as goal

pub returns : goal.returns
returns c = no_return
