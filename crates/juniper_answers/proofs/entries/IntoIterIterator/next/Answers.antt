use Rattle.std.proofs.Common.{sym, ◌∙◌, arith}
use Rattle.juniper_answers.proofs.Sides.{none_left}
use Rattle.juniper_answers.proofs.entries.IntoIterIterator.next.Goals as goal

pub returns-in_err-value-clause-steps : goal.returns-in_err-value-clause-steps
returns-in_err-value-clause-steps g c =
    let e = c.in_err-value.ensures.cases in
    rw c.from_residual-in_err-value.ensures (
      sym c.self.view_is ∙ none_left _ _ (omega (arith, e.0, c.self.inside.values.rest.ok.0)),
      none_left c.next.new.self _ (omega (arith, e.1, c.next-2.new.self.rest.ok.0)),
    )
