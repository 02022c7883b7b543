use Rattle.juniper_nodes.proofs.Growth.{on_error_by}
use Rattle.juniper_nodes.proofs.nodes.part.push_each.Goals as goal
use Rattle.std.proofs.Common.{rules, arith}
use Rattle.std.proofs.lemmas.Grind.{common_steps}

pub returns-in_err-push_onto : goal.returns-in_err-push_onto
returns-in_err-push_onto g c =
    on_error_by g.P.Part.see _ _ c.from_residual.ensures.0 c.loop-part.invariant c.in_err-push_onto.ensures

pub loop-part-init : goal.loop-part-init
loop-part-init g c = search rules

pub loop-part-preserved : goal.loop-part-preserved
loop-part-preserved g c = grind (arith, common_steps)

pub returns : goal.returns
returns g c = grind (arith, common_steps)
