use Rattle.std.proofs.Common.{refl}
use Rattle.juniper_tree.specs.View.{view_word, view_directives}
use Rattle.juniper_complexity.specs.Gathered.{counted_directives}
use Rattle.juniper_complexity.proofs.OutlineBuilders.{gathers_spread}
use Rattle.juniper_complexity.proofs.tree_outlines.gather_spread.Goals as goal

pub returns : goal.returns
returns g c =
    let content = g.S.ParseScalarValue.content in
    let s = c.args.spread.now in
    let first = c.args.builder.now in
    let opens = c.in_ok-begin_spread.ensures in
    gathers_spread (counted_directives c.count_of.result) (view_directives content s.item.directives) c.count_of.ensures
    first c.begin_spread.new.self c.begin_spread.new.self c.end_spread.new.self (view_word s.item.name) s.span opens
    refl c.end_spread.ensures.own c.end_spread.ensures.level
    (c.end_spread.ensures.spreads first.spreads.items opens.spread opens.more)
