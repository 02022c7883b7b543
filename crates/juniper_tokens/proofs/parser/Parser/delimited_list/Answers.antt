use Rattle.juniper_tokens.proofs.ListParts.{list_done, list_closing, list_item, list_more, no_item_rest, passed_on}
use Rattle.juniper_tokens.proofs.Rests.{further, properly_further}
use Rattle.juniper_tokens.proofs.parser.Parser.delimited_list.Goals as goal

pub returns-in_err-end-clause-refused : goal.returns-in_err-end-clause-refused
returns-in_err-end-clause-refused g c =
    passed_on _ _ c.from_residual-in_err-end.ensures.1 (list_closing c.loop-list.invariant c.in_err-end.ensures.0)

pub returns-in-Some-clause-list : goal.returns-in-Some-clause-list
returns-in-Some-clause-list g c =
    let closed = rw c.in-Some.is at c.in_ok-end.ensures in
    rw c.start_end.ensures (list_done _ c.loop-list.invariant closed)

pub loop-list-preserved : goal.loop-list-preserved
loop-list-preserved g c =
    let goes = rw c.in_default.is at c.in_ok-end.ensures in
    list_more c.requires c.loop-list.invariant goes c.in_ok-take_item.ensures

pub returns-in_err-take_item-clause-refused : goal.returns-in_err-take_item-clause-refused
returns-in_err-take_item-clause-refused g c =
    let goes = rw c.in_default.is at c.in_ok-end.ensures in
    passed_on _ _ c.from_residual-in_err-take_item.ensures.1
    (list_item c.loop-list.invariant goes c.in_err-take_item.ensures)

pub returns-in_err-take_item-clause-rest : goal.returns-in_err-take_item-clause-rest
returns-in_err-take_item-clause-rest g c =
    let goes = rw c.in_default.is at c.in_ok-end.ensures in
    no_item_rest c.requires (rw goes.1 c.loop-list.invariant.further) c.in_err-take_item.ensures

pub returns-in_err-end-clause-rest : goal.returns-in_err-end-clause-rest
returns-in_err-end-clause-rest g c = further _ _ _ c.loop-list.invariant.further.rest c.in_err-end.ensures.1

pub returns-in-Some-clause-taken : goal.returns-in-Some-clause-taken
returns-in-Some-clause-taken g c =
    let closed = rw c.in-Some.is at c.in_ok-end.ensures in
    properly_further _ _ _ c.loop-list.invariant.further closed.3

pub returns-in-Some-clause-rest : goal.returns-in-Some-clause-rest
returns-in-Some-clause-rest g c =
    let closed = rw c.in-Some.is at c.in_ok-end.ensures in
    further _ _ _ c.loop-list.invariant.further.rest closed.3
