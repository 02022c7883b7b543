use Rattle.juniper_tree.proofs.ReadBack.{type_read_back}
use Rattle.juniper_tree.proofs.laws.type_display_is_read_back.Goals as goal

pub returns : goal.returns
returns c = type_read_back
