use Rattle.std.proofs.Common.{◌≡◌, map, length, sym, arith}
use Rattle.std.proofs.lemmas.Grind.{common_steps}
use Rattle.juniper_tree.specs.View.{view_argument}
use Rattle.juniper_tree.proofs.SameArguments.{other_way}
use Rattle.juniper_tree.proofs.ast.Arguments.unlocated_eq.Goals as goal

pub returns-then-are_among : goal.returns-then-are_among
returns-then-are_among g c =
    let mine = map (view_argument (λ s. s)) c.args.self.now.items.items in
    let others = map (view_argument (λ s. s)) c.args.other.now.items.items in
    let count : length mine ≡ length others = grind (arith, common_steps, c.if-len.false) in
    other_way g.S.PartialEq.eq mine others c.are_among-then-are_among.result count
    (rw (c.deref.ensures.value, c.deref-2.ensures.value) at (sym c.if-are_among.ensures))
    (rw (c.deref-then-are_among.ensures.value, c.deref-then-are_among-2.ensures.value) at
    c.are_among-then-are_among.ensures)
