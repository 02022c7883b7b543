use Rattle.juniper_tree.specs.contracts.ast.FieldPartialEq.TheImpl.Laws as field
use Rattle.juniper_tree.specs.contracts.ast.InlineFragmentPartialEq.TheImpl.Laws as inline
use Rattle.juniper_tree.proofs.laws.equality.parts_are_compared_whole.Goals as goal

pub returns-clause-field : goal.returns-clause-field
returns-clause-field g c a b = field.is g.row.S g.S.PartialEq g.S.PartialEq-dict g.S.Destruct-dict
    (record { laws = g.met.S.PartialEq.laws }) a b

pub returns-clause-inline : goal.returns-clause-inline
returns-clause-inline g c a b = inline.is g.row.S g.S.PartialEq g.S.PartialEq-dict g.S.Destruct-dict
    (record { laws = g.met.S.PartialEq.laws }) a b
