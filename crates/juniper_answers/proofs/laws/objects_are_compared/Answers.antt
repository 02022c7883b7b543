use Rattle.juniper_answers.specs.contracts.value.ObjectEq.TheImpl.Laws as object_laws
use Rattle.juniper_answers.proofs.LawParts.{equality_like}
use Rattle.juniper_answers.proofs.laws.objects_are_compared.Goals as goal

pub returns : goal.returns
returns g c = equality_like _ (object_laws.laws-law g.row.S g.S.Eq g.S.Eq-dict g.S.PartialEq g.S.PartialEq-dict
    (record { laws = g.met.S.Eq.laws }) (record { laws = g.met.S.PartialEq.laws }))
