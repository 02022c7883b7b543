use Rattle.juniper_complexity.proofs.OneFault.{never_both}
use Rattle.juniper_complexity.proofs.Total.{decided}
use Rattle.juniper_complexity.proofs.laws.complexity_or_fault.Goals as goal

pub returns-clause-one_of_both : goal.returns-clause-one_of_both
returns-clause-one_of_both g c = decided

pub returns-clause-not_both : goal.returns-clause-not_both
returns-clause-not_both g c document i d a f e k cannot = never_both document i a d f e k cannot
