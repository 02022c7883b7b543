use Rattle.std.proofs.Common.{◌++◌, ◌∷◌, [], take, ap, sym, ◌∙◌, arith, append-nil}
use Rattle.std.proofs.lemmas.Grind.{common_steps}
use Rattle.juniper_outlines.specs.Definitions.{own_complexities}
use Rattle.juniper_outlines.proofs.OwnComplexities.{one_own_more}
use Rattle.juniper_outlines.proofs.operations.own_complexities.Goals as goal
use Rattle.juniper_outlines.proofs.operations.own_complexities.Goals.{in-None, in-Some+in_ok-push-in-Some}

pub loop-i-preserved : goal.loop-i-preserved
loop-i-preserved c =
    let os = c.args.definitions.now in
    let l = c.loop-i in
    let o = c.index-definitions-i.result in
    let more = one_own_more os l.i o c.own_complexity.result (omega arith) c.index-definitions-i.is
    c.own_complexity.ensures in
    let so_far = own_complexities 0 (take l.i os) in
    elim c.match-own_complexity.branch [
      | in-Some+in_ok-push-in-Some w ↦
          let longer = rw w.in-Some.is at more in
          rw (w.complexities-is, w.in_ok-push-in-Some.ensures.items)
          (ap (λ cs. cs ++ record { definition = l.i; complexity = w.in-Some.complexity } ∷ []) l.invariant
          ∙ sym longer)
      | in-None w ↦
          let same = rw w.in-None.is at more in
          rw w.complexities-is (l.invariant ∙ sym (same ∙ append-nil so_far))
    ]

pub returns : goal.returns
returns c = grind (arith, common_steps)
