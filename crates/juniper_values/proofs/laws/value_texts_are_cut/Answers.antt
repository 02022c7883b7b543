use Rattle.juniper_values.proofs.ReadBack.{value_is_cut}
use Rattle.juniper_values.proofs.laws.value_texts_are_cut.Goals as goal

pub returns : goal.returns
returns c = value_is_cut
