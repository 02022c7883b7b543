use Rattle.juniper_values.proofs.Units.{units_stand}
use Rattle.juniper_values.proofs.laws.units_stand_for_a_text.Goals as goal

pub returns : goal.returns
returns c = units_stand
