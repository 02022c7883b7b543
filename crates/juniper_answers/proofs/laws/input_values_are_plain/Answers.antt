use Rattle.juniper_answers.specs.View.{view}
use Rattle.juniper_answers.proofs.LawParts.{plain}
use Rattle.juniper_answers.proofs.laws.input_values_are_plain.Goals as goal

pub returns : goal.returns
returns g c = λ value. plain (view g.S.ParseScalarValue.content value)
