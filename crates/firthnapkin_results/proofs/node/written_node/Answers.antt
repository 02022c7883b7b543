use Rattle.std.proofs.Common.{rules, ◌+◌, ◌<◌, ◌^◌, arith}
use Rattle.firthnapkin_results.proofs.node.written_node.Goals as goal

pub returns : goal.returns
returns c source text table fits long =
    let few : c.args.at + c.args.length < 2 ^ 32 = omega (arith, fits.texts, long) in
    let value = c.value_of-value.ensures source text table few long in
    let number = c.node_number.ensures text in
    search rules
