use Rattle.std.proofs.Common.{◌≤◌, length, arith}
use Rattle.juniper_tree.specs.View.{view_directives}
use Rattle.juniper_complexity.specs.Gathered.{counted_directives}
use Rattle.juniper_complexity.proofs.OutlineBuilders.{gathers_directives}
use Rattle.juniper_complexity.proofs.Variables.{counts_none, counts_one_more, counts_all}
use Rattle.juniper_complexity.proofs.tree_outlines.gather_each_variable.Goals as goal

pub loop-variable-init : goal.loop-variable-init
loop-variable-init g c = counts_none g.S.ParseScalarValue.content c.args.builder.now c.args.variables.now

pub loop-variable-preserved : goal.loop-variable-preserved
loop-variable-preserved g c =
    let content = g.S.ParseScalarValue.content in
    let l = c.loop-variable in
    let x = c.variable-item.result in
    let more = gathers_directives (counted_directives c.count_of.result) (view_directives content x.1.directives)
    c.count_of.ensures l.builder c.count_directives.new.self c.count_directives.ensures.own
    c.count_directives.ensures.spreads c.count_directives.ensures.level in
    counts_one_more content c.args.builder.now l.builder c.count_directives.new.self c.args.variables.now
    l.variable-index x (omega arith) c.variable-item.is l.invariant more

pub returns : goal.returns
returns g c =
    let l = c.loop-variable in
    let end : length c.args.variables.now ≤ l.variable-index = omega (arith, c.loop-variable-test.false) in
    counts_all g.S.ParseScalarValue.content c.args.builder.now l.builder c.args.variables.now l.variable-index end
    l.invariant
