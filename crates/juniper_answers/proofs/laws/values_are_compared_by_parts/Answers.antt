use Rattle.std.proofs.Common.{◌∙◌, rules, Bool, true}
use denote.Hole.Compared.{compared_is}
use Rattle.std.specs.Cmp.{partial_equiv_from_equiv}
use Rattle.juniper_answers.specs.contracts.value.ValuePartialEq.TheImpl.Laws as value_laws
use Rattle.juniper_answers.specs.contracts.value.ValuePartialEq.TheImpl.{the_step}
use Rattle.juniper_answers.specs.declared.value.Value as V
use Rattle.juniper_answers.specs.declared.value.Value.{the_lemmas}
use Rattle.juniper_answers.proofs.laws.values_are_compared_by_parts.Goals as goal

pub returns-clause-parts : goal.returns-clause-parts
returns-clause-parts g c =
    let is = value_laws.is g.row.S g.S.PartialEq g.S.PartialEq-dict
    (record { laws = partial_equiv_from_equiv g.met.S.Eq.laws }) in
    record {
      nulls = is V.Null V.Null ∙ search (rules, the_lemmas);
      scalars = λ a b. is (V.Scalar a) (V.Scalar b) ∙ search (rules, the_lemmas);
      lists = λ a b. is (V.List a) (V.List b) ∙ search (rules, the_lemmas);
      objects = λ a b.
          is (V.Object a) (V.Object b)
          ∙ search (
            rules,
            the_lemmas,
            compared_is (V.TheBlock.the_members g.row.S.Denot)
                (V.TheBlock.the_family g.row.S.Denot) (V.TheBlock.the_depth g.row.S.Denot) Bool true
                (the_step g.row.S g.S.PartialEq g.S.PartialEq-dict)
                (value_laws.local g.row.S g.S.PartialEq g.S.PartialEq-dict
                (record { laws = partial_equiv_from_equiv g.met.S.Eq.laws })) V.TheBlock.member-Object a b,
          );
    }

pub returns-clause-kinds : goal.returns-clause-kinds
returns-clause-kinds g c =
    let is = value_laws.is g.row.S g.S.PartialEq g.S.PartialEq-dict
    (record { laws = partial_equiv_from_equiv g.met.S.Eq.laws }) in
    record {
      null_scalar = λ s. is V.Null (V.Scalar s) ∙ search (rules, the_lemmas);
      null_list = λ a. is V.Null (V.List a) ∙ search (rules, the_lemmas);
      null_object = λ o. is V.Null (V.Object o) ∙ search (rules, the_lemmas);
      scalar_list = λ s a. is (V.Scalar s) (V.List a) ∙ search (rules, the_lemmas);
      scalar_object = λ s o. is (V.Scalar s) (V.Object o) ∙ search (rules, the_lemmas);
      list_object = λ a o. is (V.List a) (V.Object o) ∙ search (rules, the_lemmas);
    }
