use Rattle.std.proofs.Common.{rules}
use Rattle.juniper_tokens.proofs.lexer.scan.scan_reached.Goals as goal

pub returns-in-Fraction : goal.returns-in-Fraction
returns-in-Fraction c = search rules
