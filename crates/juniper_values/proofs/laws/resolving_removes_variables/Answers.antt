use Rattle.juniper_values.specs.View.{view}
use Rattle.juniper_values.proofs.Referring.{resolving_removes}
use Rattle.juniper_values.proofs.laws.resolving_removes_variables.Goals as goal

pub returns : goal.returns
returns g c = λ m h v. resolving_removes m h (view g.S.ParseScalarValue.content v)
