use Rattle.std.proofs.Common.{◌∙◌}
use Rattle.juniper_outlines.proofs.names.find.Goals as goal

pub returns : goal.returns
returns c place knows = c.copied.ensures ∙ (c.get.ensures.value ∙ knows.knows c.args.name.now c.utf8.name)
