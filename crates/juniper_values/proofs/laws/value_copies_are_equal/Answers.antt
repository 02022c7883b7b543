use Rattle.juniper_values.proofs.Copies.{copies_equal, equal_contents}
use Rattle.juniper_values.proofs.laws.value_copies_are_equal.Goals as goal

pub returns : goal.returns
returns g c = λ a b. (
  copies_equal g.S.ParseScalarValue.content g.S.PartialEq.eq (λ s t e. (g.met.S.ScalarValue.equal_by_content s t).1 e) a
      b,
  equal_contents g.S.ParseScalarValue.content g.S.PartialEq.eq (λ s t e. (g.met.S.ScalarValue.equal_by_content s t).0 e)
      a b,
)
