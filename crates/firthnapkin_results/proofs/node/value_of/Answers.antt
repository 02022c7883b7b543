use Rattle.std.proofs.Common.{rules}
use Rattle.firthnapkin_results.proofs.node.value_of.Goals as goal

pub returns-in-Unnamed : goal.returns-in-Unnamed
returns-in-Unnamed c source text table fit long = let value = c.scalar_value.ensures text fit in search rules
