use Rattle.std.proofs.Common.{◌≡◌, map, drop}
use Rattle.juniper_tree.specs.SameArguments.{are_among}
use Rattle.juniper_tree.specs.View.{view_argument}
use Rattle.juniper_tree.proofs.unlocated.are_among.Given as goal

abbrev pub invariant-loop-argument : goal.invariant-loop-argument
invariant-loop-argument g l =
    let others = map (view_argument (λ s. s)) l.others in
    are_among g.S.PartialEq.eq (map (view_argument (λ s. s)) l.arguments) others
    ≡ are_among g.S.PartialEq.eq (map (view_argument (λ s. s)) (drop l.argument-index l.arguments)) others
