use Rattle.juniper_nodes.proofs.ShortLiterals.{short_texts}
use Rattle.juniper_nodes.proofs.laws.short_texts.Goals as goal

pub returns : goal.returns
returns c = short_texts
