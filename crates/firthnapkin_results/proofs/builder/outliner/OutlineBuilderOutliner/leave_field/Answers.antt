use Rattle.std.proofs.Common.{subst, sym}
use Rattle.juniper_complexity.specs.Gathered.{Gathers, counted_directives}
use Rattle.juniper_complexity.specs.Parts.{spreads_of_optional}
use Rattle.juniper_complexity.specs.declared.outline_builder.OutlineBuilder.{OutlineBuilder}
use Rattle.juniper_complexity.specs.device.BySpreads.{own_of_optional}
use Rattle.juniper_complexity.proofs.Public.{directives_counted, gathers_field, gathers_optional_set}
use Rattle.juniper_complexity.proofs.Public.{kept_directives}
use Rattle.firthnapkin_results.proofs.builder.outliner.OutlineBuilderOutliner.leave_field.Goals as goal

pub returns : goal.returns
returns c first opened with_directives alias name xs ds parts set span entered directives all =
    let old = c.args.self.now in
    let counted = c.args.directives.now in
    let inner = subst (λ (z : OutlineBuilder). Gathers z old (λ l. own_of_optional l set)
    (λ l. spreads_of_optional l set))
    (sym (kept_directives opened with_directives counted ds directives))
    (gathers_optional_set with_directives old parts set all) in
    gathers_field (counted_directives counted) ds (directives_counted opened with_directives counted ds directives)
    first opened old _ _ alias name xs set span entered.0 entered.1 inner c.leave_field.ensures.own
    c.leave_field.ensures.spreads c.leave_field.ensures.level
