use Rattle.std.proofs.Common.{rules}
use Rattle.firthnapkin_results.proofs.MeasuredBounds.{measured_within}
use Rattle.firthnapkin_results.proofs.complexities.write_nodes_and_complexities.Goals as goal

pub returns-clause-bounds : goal.returns-clause-bounds
returns-clause-bounds c =
    measured_within c.args.source.now c.args.limits.now c.args.nodes.now c.measure_text.new.nodes c.args.texts.now
    c.measure_text.new.texts c.args.complexities.now c.measure_text.new.complexities c.measure_text.result
    (search rules)
