use Rattle.std.proofs.Common.{rules}
use Rattle.juniper_canonical.proofs.text.write_token.Goals as goal

pub returns-in-Name-clause-text : goal.returns-in-Name-clause-text
returns-in-Name-clause-text c = search rules
