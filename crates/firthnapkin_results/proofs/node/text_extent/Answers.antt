use Rattle.std.proofs.Common.{rules}
use Rattle.firthnapkin_results.proofs.Written.{before_end}
use Rattle.firthnapkin_results.proofs.node.text_extent.Goals as goal

pub returns : goal.returns
returns c = rw (← before_end c.args.end c.args.text.now c.utf8.text) (search rules)
