use Rattle.juniper_values.proofs.BlockValues.{filled_ends}
use Rattle.juniper_values.proofs.laws.block_strings_have_no_blank_ends.Goals as goal

pub returns : goal.returns
returns c = filled_ends
