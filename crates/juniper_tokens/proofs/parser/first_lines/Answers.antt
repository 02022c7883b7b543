use Rattle.std.proofs.Common.{arith}
use Rattle.juniper_tokens.proofs.parser.first_lines.Goals as goal

pub count_lines-requires-clause-before : goal.count_lines-requires-clause-before
count_lines-requires-clause-before c = omega (arith, (c.in-Ok.ensures c.args.lexer.now.source).before)
