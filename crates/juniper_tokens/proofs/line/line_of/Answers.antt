use Rattle.std.proofs.Common.{arith}
use Rattle.juniper_tokens.proofs.Lines.{line_found}
use Rattle.juniper_tokens.proofs.line.line_of.Goals as goal

pub returns-clause-on : goal.returns-clause-on
returns-clause-on c =
    line_found c.args.starts.now c.args.index c.loop-high.low c.loop-high.high _ c.loop-high.invariant
    (omega (arith, c.loop-high-test.false)) c.new.ensures.line c.new.ensures.number
