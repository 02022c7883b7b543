use Rattle.std.proofs.Common.{◌∙◌, ap, sym}
use Rattle.juniper_complexity.specs.Gathered.{counted_directives}
use Rattle.juniper_complexity.specs.declared.outline_builder.OutlineBuilder.{OutlineBuilder}
use Rattle.juniper_complexity.proofs.Public.{directives_counted, gathers_spread, kept_directives}
use Rattle.firthnapkin_results.proofs.builder.outliner.OutlineBuilderOutliner.end_spread.Goals as goal

pub returns : goal.returns
returns c first opened name ds begun directives =
    let old = c.args.self.now in
    let counted = c.args.directives.now in
    let kept = kept_directives opened old counted ds directives in
    let items = ap (λ (z : OutlineBuilder). z.spreads.items) (sym kept) ∙ begun.more in
    gathers_spread (counted_directives counted) ds (directives_counted opened old counted ds directives) first opened
    old _ name c.args.span.now begun kept c.end_spread.ensures.own c.end_spread.ensures.level
    (c.end_spread.ensures.spreads first.spreads.items begun.spread items)
