use Rattle.juniper_values.proofs.Alike.{alike}
use Rattle.juniper_values.proofs.laws.values_are_compared_whatever_their_places.Goals as goal

pub returns : goal.returns
returns g c = alike g.S.PartialEq.eq g.met.S.Eq.laws
