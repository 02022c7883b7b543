use Rattle.juniper_values.proofs.Alike.{objects}
use Rattle.juniper_values.proofs.laws.objects_are_compared_both_ways.Goals as goal

pub returns : goal.returns
returns g c = objects g.S.PartialEq.eq
