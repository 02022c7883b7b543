use Rattle.juniper_values.proofs.ReadBack.{type_is_cut}
use Rattle.juniper_values.proofs.laws.type_texts_are_cut.Goals as goal

pub returns : goal.returns
returns c = type_is_cut
