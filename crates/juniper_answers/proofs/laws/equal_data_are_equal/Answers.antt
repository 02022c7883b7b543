use Rattle.std.proofs.Common.{◌≡◌, sym}
use Rattle.juniper_answers.proofs.EqualData.{copies_equal, same_data-lifts}
use Rattle.juniper_answers.proofs.laws.equal_data_are_equal.Goals as goal

pub returns-clause-data : goal.returns-clause-data
returns-clause-data g c = λ a b e.
    copies_equal (λ s t. g.S.ParseScalarValue.content t ≡ g.S.ParseScalarValue.content s) g.S.PartialEq.eq
    (λ s t h. (g.met.S.ScalarValue.equal_by_content s t).1 (sym h)) _ c.values_are_compared_by_parts.ensures.parts a
    b
    (same_data-lifts g.S.ParseScalarValue.content a b e)

pub returns-clause-copies : goal.returns-clause-copies
returns-clause-copies g c =
    copies_equal (λ s t. g.S.ParseScalarValue.content t ≡ g.S.ParseScalarValue.content s) g.S.PartialEq.eq
    (λ s t h. (g.met.S.ScalarValue.equal_by_content s t).1 (sym h)) _ c.values_are_compared_by_parts.ensures.parts
