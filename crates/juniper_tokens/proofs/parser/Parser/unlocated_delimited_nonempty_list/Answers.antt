use Rattle.juniper_tokens.proofs.ListParts.{after_item, nonempty_done, nonempty_closing, nonempty_item, nonempty_more, no_item_rest, passed_on}
use Rattle.juniper_tokens.proofs.parser.Parser.unlocated_delimited_nonempty_list.Goals as goal

pub returns-in_err-take_item-clause-refused : goal.returns-in_err-take_item-clause-refused
returns-in_err-take_item-clause-refused g c =
    passed_on _ _ c.from_residual-in_err-take_item.ensures.1
    (nonempty_item c.loop-items.invariant c.in_err-take_item.ensures)

pub returns-in_err-take_item-clause-rest : goal.returns-in_err-take_item-clause-rest
returns-in_err-take_item-clause-rest g c =
    no_item_rest c.requires c.loop-items.invariant.further c.in_err-take_item.ensures

pub returns-in_err-end-clause-refused : goal.returns-in_err-end-clause-refused
returns-in_err-end-clause-refused g c =
    passed_on _ _ c.from_residual-in_err-end.ensures.1
    (nonempty_closing c.loop-items.invariant c.in_ok-take_item.ensures c.in_err-end.ensures.0)

pub returns-in-Some-clause-list : goal.returns-in-Some-clause-list
returns-in-Some-clause-list g c =
    let closed = rw c.in-Some.is at c.in_ok-end.ensures in
    rw c.start_end.ensures (nonempty_done _ c.loop-items.invariant c.in_ok-take_item.ensures closed)

pub loop-items-preserved : goal.loop-items-preserved
loop-items-preserved g c =
    let goes = rw c.in_default.is at c.in_ok-end.ensures in
    nonempty_more c.requires c.loop-items.invariant c.in_ok-take_item.ensures goes

pub returns-in_err-end-clause-rest : goal.returns-in_err-end-clause-rest
returns-in_err-end-clause-rest g c = (after_item c.requires c.loop-items.invariant.further c.in_ok-take_item.ensures.1
    c.in_err-end.ensures.1).rest

pub returns-in-Some-clause-taken : goal.returns-in-Some-clause-taken
returns-in-Some-clause-taken g c =
    let closed = rw c.in-Some.is at c.in_ok-end.ensures in
    after_item c.requires c.loop-items.invariant.further c.in_ok-take_item.ensures.1 closed.3

pub returns-in-Some-clause-rest : goal.returns-in-Some-clause-rest
returns-in-Some-clause-rest g c =
    let closed = rw c.in-Some.is at c.in_ok-end.ensures in
    (after_item c.requires c.loop-items.invariant.further c.in_ok-take_item.ensures.1 closed.3).rest
