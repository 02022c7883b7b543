use Rattle.std.proofs.Common.{◌≡◌, ◌∙◌, length, sym, eqb-true}
use Rattle.firthnapkin_results.proofs.TextLines.{return_in_front, return_in_back}
use Rattle.firthnapkin_results.proofs.excerpt.joined.Goals as goal

pub returns-then-is_empty : goal.returns-then-is_empty
returns-then-is_empty c =
    let none : length c.args.back.now ≡ 0 = eqb-true _ _ (sym c.is_empty.ensures ∙ c.if-is_empty.true) in
    rw c.in-Some.is
    (return_in_front c.args.front.now c.args.back.now c.without_return.result.now none c.without_return.ensures)

pub returns-else-is_empty : goal.returns-else-is_empty
returns-else-is_empty c =
    rw c.in-Some.is
    (return_in_back c.args.front.now c.args.back.now c.without_return-else-is_empty.result.now c.utf8.back
    (sym c.is_empty.ensures ∙ c.if-is_empty.false) c.without_return-else-is_empty.ensures)
