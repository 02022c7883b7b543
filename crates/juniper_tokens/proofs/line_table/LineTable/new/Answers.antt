use Rattle.std.proofs.Common.{arith}
use Rattle.std.specs.Str.{chars}
use Rattle.juniper_tokens.specs.device.LineSteps.{made_table}
use Rattle.juniper_tokens.proofs.LinesSoFar.{all_lines}
use Rattle.juniper_tokens.proofs.line_table.LineTable.new.Goals as goal

pub returns : goal.returns
returns c =
    let source = chars c.args.source.now in
    all_lines source c.in_ok-lines.lines.starts.items 0 (omega arith) (c.in_ok-lines.ensures source).so_far
    (made_table c.push_lines.new.starts.items c.in_ok-lines-2.field-0) c.in_ok-lines-2.ensures

pub invariant_of-result : goal.invariant_of-result
invariant_of-result c = record { source = chars c.args.source.now; is = returns c }
