use Rattle.juniper_tokens.proofs.Offsets.{mark_first}
use Rattle.juniper_tokens.proofs.lexer.text.begins_with_mark.Goals as goal

pub returns : goal.returns
returns c = mark_first _ c.args.text.now c.utf8.text c.starts_with.ensures.cases
