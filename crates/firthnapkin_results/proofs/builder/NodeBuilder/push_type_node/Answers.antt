use Rattle.std.proofs.Common.{[], refl}
use Rattle.firthnapkin_results.proofs.builder.NodeBuilder.push_type_node.Goals as goal

pub returns : goal.returns
returns c = c.push_with_text.ensures c.args.self.now [] c.in_ok-push_type.ensures refl
