use Rattle.std.specs.Map.Iter.{deref_pair}
use Rattle.juniper_answers.proofs.LawParts.{shows_all}
use Rattle.juniper_answers.proofs.laws.fields_come_in_order.Goals as goal

pub returns-clause-lent : goal.returns-clause-lent
returns-clause-lent g c = shows_all deref_pair

pub returns-clause-given : goal.returns-clause-given
returns-clause-given g c = shows_all (λ p. p)
