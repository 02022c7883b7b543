use Rattle.juniper_values.specs.View.{view}
use Rattle.juniper_values.proofs.Referring.{resolving_keeps}
use Rattle.juniper_values.proofs.laws.resolving_keeps_values_without_variables.Goals as goal

pub returns : goal.returns
returns g c = λ m v. resolving_keeps m (view g.S.ParseScalarValue.content v)
