use Rattle.std.proofs.Common.{[], subst, sym}
use Rattle.juniper_complexity.specs.Gathered.{Gathers, counted_directives}
use Rattle.juniper_complexity.specs.Parts.{directives_complexity}
use Rattle.juniper_complexity.specs.declared.outline_builder.OutlineBuilder.{OutlineBuilder}
use Rattle.juniper_complexity.proofs.Public.{directives_counted, gathers_directives, kept_directives}
use Rattle.firthnapkin_results.proofs.builder.outliner.OutlineBuilderVariableOutliner.end_variable.Goals as goal

pub returns : goal.returns
returns c opened name of_type value ds directives =
    let old = c.args.self.now in
    let counted = c.args.directives.now in
    subst (λ (z : OutlineBuilder). Gathers z c.count_directives.new.self (λ _. directives_complexity ds) (λ _. []))
    (sym (kept_directives opened old counted ds directives))
    (gathers_directives (counted_directives counted) ds (directives_counted opened old counted ds directives) old
    c.count_directives.new.self c.count_directives.ensures.own c.count_directives.ensures.spreads
    c.count_directives.ensures.level)
