use Rattle.juniper_tree.specs.Scalars.{stated}
use Rattle.juniper_documents.proofs.BothLimits.{one_answer_limited}
use Rattle.juniper_documents.proofs.laws.one_answer_limited.Goals as goal

pub returns : goal.returns
returns g c = one_answer_limited (stated g.S.ParseScalarValue.reading g.S.ScalarValue.of_bool)
