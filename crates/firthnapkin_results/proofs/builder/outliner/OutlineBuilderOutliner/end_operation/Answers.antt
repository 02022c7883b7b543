use Rattle.std.proofs.Common.{◌∙◌, ap, map, refl, subst, sym}
use Rattle.juniper_complexity.specs.Gathered.{Gathers, counted_directives, seen_spread}
use Rattle.juniper_complexity.specs.Parts.{spreads_of_all}
use Rattle.juniper_complexity.specs.declared.outline_builder.OutlineBuilder.{OutlineBuilder}
use Rattle.juniper_complexity.specs.device.BySpreads.{own_of_all}
use Rattle.juniper_complexity.proofs.Public.{directives_counted, gathers_operation, gathers_optional_variables}
use Rattle.juniper_complexity.proofs.Public.{gathers_set, kept_directives}
use Rattle.firthnapkin_results.proofs.builder.outliner.OutlineBuilderOutliner.end_operation.Goals as goal

pub returns : goal.returns
returns c opened with_variables with_directives kind name variables vs ds parts set span begun some directives all =
    let old = c.args.self.now in
    let counted = c.args.directives.now in
    let inner = subst (λ (z : OutlineBuilder). Gathers z old (λ l. own_of_all l set) (λ l. spreads_of_all l set))
    (sym (kept_directives with_variables with_directives counted ds directives))
    (gathers_set with_directives old parts set all) in
    let whole = gathers_operation (counted_directives counted) ds
    (directives_counted with_variables with_directives counted ds directives) opened with_variables old vs set _ begun
    (gathers_optional_variables opened with_variables variables vs some) inner c.end.ensures.own in (
      record {
        fragment = rw c.end.ensures.fragment refl;
        own_complexity = whole.0;
        own_spreads = ap (map seen_spread) c.end.ensures.spreads ∙ whole.1;
      },
      c.end.ensures.mark,
    )
