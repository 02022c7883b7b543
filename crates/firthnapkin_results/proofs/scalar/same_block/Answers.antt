use Rattle.std.proofs.Common.{◌∙◌, sym}
use Rattle.std.specs.Str.{chars}
use Rattle.juniper_nodes.proofs.Public.{same_texts}
use Rattle.firthnapkin_results.proofs.scalar.same_block.Goals as goal

pub returns : goal.returns
returns c = c.same_text.ensures ∙ sym (same_texts (chars c.args.a.now) (chars c.args.b.now))
