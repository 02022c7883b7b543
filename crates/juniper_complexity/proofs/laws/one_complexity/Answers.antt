use Rattle.juniper_complexity.proofs.Gathering.{gathers}
use Rattle.juniper_complexity.proofs.Unique.{unique_complexity}
use Rattle.juniper_complexity.proofs.laws.one_complexity.Goals as goal

pub returns : goal.returns
returns g c document i d a b e k l =
    unique_complexity document i a b (gathers document i a d k e) (gathers document i b d l e)
