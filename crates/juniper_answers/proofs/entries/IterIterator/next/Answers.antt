use Rattle.std.proofs.Common.{length, sym, ap, ◌∙◌}
use Rattle.std.specs.Slice.Iter.{iter_rest}
use Rattle.juniper_answers.proofs.Sides.{none_left}
use Rattle.juniper_answers.proofs.entries.IterIterator.next.Goals as goal

pub returns-in_err-value-clause-steps : goal.returns-in_err-value-clause-steps
returns-in_err-value-clause-steps g c =
    let s = c.in_err-value.ensures.steps in
    rw c.from_residual-in_err-value.ensures (
      sym c.self.view_is ∙ none_left _ _ s.0,
      none_left (iter_rest c.next.new.self) _ (ap (λ it. length (iter_rest it)) s.1 ∙ s.0),
    )
