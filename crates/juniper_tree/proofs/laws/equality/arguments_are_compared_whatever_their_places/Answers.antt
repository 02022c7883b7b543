use Rattle.juniper_tree.proofs.SameArguments.{arguments_alike}
use Rattle.juniper_tree.proofs.laws.equality.arguments_are_compared_whatever_their_places.Goals as goal

pub returns : goal.returns
returns g c = arguments_alike g.S.PartialEq.eq c.values_are_compared_whatever_their_places.ensures
