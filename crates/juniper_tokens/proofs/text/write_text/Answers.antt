use Rattle.std.proofs.Common.{rules}
use Rattle.std.proofs.lemmas.Str.{encodes-chars}
use Rattle.juniper_tokens.proofs.text.write_text.Goals as goal

pub returns : goal.returns
returns g c = rw (encodes-chars c.args.text.now c.utf8.text) (search rules)
