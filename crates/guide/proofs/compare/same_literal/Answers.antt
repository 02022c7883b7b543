use Rattle.guide.proofs.compare.same_literal.Goals as goal

pub returns-clause-compared : goal.returns-clause-compared
returns-clause-compared g c = record {
  value = c.in_ok-one.one;
  other_value = c.in_ok-other.other;
  begins = c.in_ok-one.ensures.value;
  other_begins = c.in_ok-other.ensures.value;
  compared = c.unlocated_eq.ensures;
}
