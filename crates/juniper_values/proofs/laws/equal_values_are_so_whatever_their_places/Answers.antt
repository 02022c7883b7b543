use Rattle.juniper_values.proofs.Alike.{equal_alike}
use Rattle.juniper_values.proofs.laws.equal_values_are_so_whatever_their_places.Goals as goal

pub returns : goal.returns
returns g c = equal_alike g.S.PartialEq.eq g.met.S.Eq.laws
