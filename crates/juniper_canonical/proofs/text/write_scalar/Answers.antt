use Rattle.std.proofs.Common.{rules}
use Rattle.juniper_canonical.proofs.Marks.{chars_quote}
use Rattle.juniper_canonical.proofs.text.write_scalar.Goals as goal

pub returns-in-String-clause-text : goal.returns-in-String-clause-text
returns-in-String-clause-text c = search (rules, chars_quote)
