use Rattle.std.proofs.Common.{◌∙◌}
use Rattle.juniper_tokens.proofs.Texts.{pointwise-chars}
use Rattle.juniper_tokens.proofs.text.same_text.Goals as goal

pub returns : goal.returns
returns c = c.eq.ensures ∙ pointwise-chars _ _ c.utf8.a c.utf8.b
