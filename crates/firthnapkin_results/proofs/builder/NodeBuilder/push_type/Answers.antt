use Rattle.juniper_nodes.proofs.Public.{type-text}
use Rattle.firthnapkin_results.proofs.Builders.{adds_written}
use Rattle.firthnapkin_results.proofs.builder.NodeBuilder.push_type.Goals as goal

pub returns-in-Ok : goal.returns-in-Ok
returns-in-Ok c = rw (type-text c.args.literal.now) (adds_written _ _ _ c.in-Ok.ensures.writes)
