use Rattle.std.proofs.Common.{◌∙◌, ap, map, refl, subst, sym}
use Rattle.juniper_complexity.specs.Gathered.{Gathers, counted_directives, seen_spread}
use Rattle.juniper_complexity.specs.Parts.{spreads_of_all}
use Rattle.juniper_complexity.specs.declared.outline_builder.OutlineBuilder.{OutlineBuilder}
use Rattle.juniper_complexity.specs.device.BySpreads.{own_of_all}
use Rattle.juniper_complexity.proofs.Public.{directives_counted, gathers_definition, gathers_set, kept_directives}
use Rattle.firthnapkin_results.proofs.builder.outliner.OutlineBuilderOutliner.end_fragment.Goals as goal

pub returns : goal.returns
returns c opened with_directives condition ds parts set span begun directives all =
    let old = c.args.self.now in
    let counted = c.args.directives.now in
    let inner = subst (λ (z : OutlineBuilder). Gathers z old (λ l. own_of_all l set) (λ l. spreads_of_all l set))
    (sym (kept_directives opened with_directives counted ds directives))
    (gathers_set with_directives old parts set all) in
    let whole = gathers_definition (counted_directives counted) ds
    (directives_counted opened with_directives counted ds directives) opened old set _ begun inner
    c.end.ensures.own in (
      record {
        fragment = rw c.end.ensures.fragment refl;
        own_complexity = whole.0;
        own_spreads = ap (map seen_spread) c.end.ensures.spreads ∙ whole.1;
      },
      c.end.ensures.mark,
    )
