use Rattle.std.proofs.Common.{◌≡◌, map, drop}
use Rattle.std.specs.List.{list_any}
use Rattle.juniper_tree.specs.SameArguments.{same_argument}
use Rattle.juniper_tree.specs.View.{view_argument}
use Rattle.juniper_tree.proofs.unlocated.is_among.Given as goal

abbrev pub invariant-loop-other : goal.invariant-loop-other
invariant-loop-other g l =
    let is_same = same_argument g.S.PartialEq.eq (view_argument (λ s. s) l.argument) in
    list_any is_same (map (view_argument (λ s. s)) l.others)
    ≡ list_any is_same (map (view_argument (λ s. s)) (drop l.other-index l.others))
