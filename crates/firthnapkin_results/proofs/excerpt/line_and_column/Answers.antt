use Rattle.std.proofs.Common.{◌∙◌, ◌+◌, sym, ap, arith}
use Rattle.std.proofs.lemmas.Iterator.{YieldsList-from_chars}
use Rattle.std.proofs.lemmas.Iterator.Consumers.{YieldsList-end}
use Rattle.std.proofs.lemmas.Grind.{common_steps}
use Rattle.std.proofs.lemmas.List.{map-id}
use Rattle.graphql_lexical.specs.Characters.{Text}
use Rattle.graphql_lexical.specs.Place.{position_after}
use Rattle.firthnapkin_results.proofs.excerpt.line_and_column.Goals as goal

pub returns-clause-line : goal.returns-clause-line
returns-clause-line c =
    let all = YieldsList-end (YieldsList-from_chars c.args.before.now c.utf8.before cc) c.loop-c.yielded _
    c.loop-c.yielded_by _ _ c.in-None.is c.next.ensures.steps in
    c.loop-c.invariant.line
    ∙ ap (λ (t : Text). (position_after t).line + 1) (sym (map-id c.loop-c.yielded) ∙ all.0)

pub returns-clause-column : goal.returns-clause-column
returns-clause-column c =
    let all = YieldsList-end (YieldsList-from_chars c.args.before.now c.utf8.before cc) c.loop-c.yielded _
    c.loop-c.yielded_by _ _ c.in-None.is c.next.ensures.steps in
    c.loop-c.invariant.column
    ∙ ap (λ (t : Text). (position_after t).column) (sym (map-id c.loop-c.yielded) ∙ all.0)

pub loop-c-preserved-then-c-eq10 : goal.loop-c-preserved-then-c-eq10
loop-c-preserved-then-c-eq10 c = grind (arith, common_steps)

pub loop-c-preserved : goal.loop-c-preserved
loop-c-preserved c = grind (arith, common_steps)
