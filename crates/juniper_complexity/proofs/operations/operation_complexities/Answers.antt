use Rattle.std.proofs.Common.{map}
use Rattle.juniper_tree.specs.View.{view_definition}
use Rattle.juniper_complexity.proofs.OutlinedOperations.{own_mean}
use Rattle.juniper_complexity.proofs.operations.operation_complexities.Goals as goal

pub returns-then-have_no_spreads-clause-complexities : goal.returns-then-have_no_spreads-clause-complexities
returns-then-have_no_spreads-clause-complexities g c =
    let ds = map (view_definition g.S.ParseScalarValue.content) c.args.document.now in
    let none = rw c.deref.ensures.value at (c.have_no_spreads.ensures.yes c.if-have_no_spreads.true) in
    rw (c.in_ok-own_complexities.ensures, c.deref-then-have_no_spreads.ensures.value)
    (own_mean c.in_ok-definitions.definitions.items ds c.in_ok-definitions.ensures none)

pub returns-clause-complexities : goal.returns-clause-complexities
returns-clause-complexities g c =
    let ds = map (view_definition g.S.ParseScalarValue.content) c.args.document.now in
    c.gathered_complexities.ensures.complexities ds (rw c.deref-2.ensures.value c.in_ok-definitions.ensures)

pub returns-clause-failure : goal.returns-clause-failure
returns-clause-failure g c =
    let ds = map (view_definition g.S.ParseScalarValue.content) c.args.document.now in
    c.gathered_complexities.ensures.failure ds (rw c.deref-2.ensures.value c.in_ok-definitions.ensures)
