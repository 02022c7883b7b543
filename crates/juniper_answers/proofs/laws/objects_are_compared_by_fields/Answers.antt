use Rattle.std.proofs.Common.{rules, Bool, true}
use denote.Hole.Compared.{compared_is}
use Rattle.std.specs.Cmp.{partial_equiv_from_equiv}
use Rattle.juniper_answers.specs.contracts.value.ValuePartialEq.TheImpl.Laws as value_laws
use Rattle.juniper_answers.specs.contracts.value.ValuePartialEq.TheImpl.{the_step}
use Rattle.juniper_answers.specs.declared.value.Value as V
use Rattle.juniper_answers.specs.declared.value.Value.{the_lemmas}
use Rattle.juniper_answers.proofs.laws.objects_are_compared_by_fields.Goals as goal

pub returns : goal.returns
returns g c = λ a b. search (
  rules,
  the_lemmas,
  compared_is (V.TheBlock.the_members g.row.S.Denot)
      (V.TheBlock.the_family g.row.S.Denot) (V.TheBlock.the_depth g.row.S.Denot) Bool true
      (the_step g.row.S g.S.PartialEq g.S.PartialEq-dict)
      (value_laws.local g.row.S g.S.PartialEq g.S.PartialEq-dict
      (record { laws = partial_equiv_from_equiv g.met.S.Eq.laws })) V.TheBlock.member-Object a b,
)
