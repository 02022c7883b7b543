use Rattle.std.proofs.Common.{subst, sym}
use Rattle.juniper_complexity.specs.Gathered.{Gathers, counted_directives}
use Rattle.juniper_complexity.specs.Parts.{spreads_of_all}
use Rattle.juniper_complexity.specs.declared.outline_builder.OutlineBuilder.{OutlineBuilder}
use Rattle.juniper_complexity.specs.device.BySpreads.{own_of_all}
use Rattle.juniper_complexity.proofs.Public.{directives_counted, gathers_inline, gathers_set, kept_directives}
use Rattle.firthnapkin_results.proofs.builder.outliner.OutlineBuilderOutliner.end_inline_fragment.Goals as goal

pub returns : goal.returns
returns c opened with_directives condition ds parts set span directives all =
    let old = c.args.self.now in
    let counted = c.args.directives.now in
    let inner = subst (λ (z : OutlineBuilder). Gathers z old (λ l. own_of_all l set) (λ l. spreads_of_all l set))
    (sym (kept_directives opened with_directives counted ds directives))
    (gathers_set with_directives old parts set all) in
    gathers_inline (counted_directives counted) ds (directives_counted opened with_directives counted ds directives)
    opened old _ condition set span inner c.count_directives.ensures.own c.count_directives.ensures.spreads
    c.count_directives.ensures.level
