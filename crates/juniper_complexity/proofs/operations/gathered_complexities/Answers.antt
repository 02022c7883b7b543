use Rattle.juniper_outlines.specs.Definitions.{outlines_of}
use Rattle.juniper_complexity.proofs.OutlinedOperations.{all_mean, fails}
use Rattle.juniper_complexity.proofs.ResolvedOutlines.{are_outlines}
use Rattle.juniper_complexity.proofs.operations.gathered_complexities.Goals as goal

pub returns-clause-complexities : goal.returns-clause-complexities
returns-clause-complexities c ds gathered =
    let os = c.args.definitions.now in
    all_mean ds (outlines_of os) (are_outlines os ds gathered) c.outlined_complexities.result
    c.outlined_complexities.ensures.complexities

pub returns-clause-failure : goal.returns-clause-failure
returns-clause-failure c ds gathered =
    let os = c.args.definitions.now in
    fails ds (outlines_of os) (are_outlines os ds gathered) c.outlined_complexities.result
    c.outlined_complexities.ensures.failure
