use Rattle.std.proofs.Common.{refl}
use Rattle.graphql_nodes.specs.Nodes.{alias_nodes}
use Rattle.juniper_tree.specs.View.{view_word}
use Rattle.firthnapkin_results.proofs.Builders.{adds_none, named_text}
use Rattle.firthnapkin_results.proofs.builder.NodeBuilder.push_alias.Goals as goal

pub returns-in-Some : goal.returns-in-Some
unfolding alias_nodes
returns-in-Some c = rw c.in-Some.is (c.push.ensures (named_text (view_word c.in-Some.alias)))

pub returns-in-None : goal.returns-in-None
returns-in-None c = rw c.in-None.is (adds_none c.args.self.now c.args.self.now refl)
