use Rattle.juniper_tree.proofs.ReadBack.{value_read_back}
use Rattle.juniper_tree.proofs.laws.value_display_is_read_back.Goals as goal

pub returns : goal.returns
returns c = value_read_back
