use Rattle.juniper_complexity.proofs.OneFault.{one_fault}
use Rattle.juniper_complexity.proofs.laws.one_fault.Goals as goal

pub returns : goal.returns
returns g c document i d f h e k l = one_fault document i d f h e k l
