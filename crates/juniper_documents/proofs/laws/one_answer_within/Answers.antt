use Rattle.juniper_tree.specs.Scalars.{stated}
use Rattle.juniper_documents.proofs.DepthLimits.{one_answer}
use Rattle.juniper_documents.proofs.laws.one_answer_within.Goals as goal

pub returns : goal.returns
returns g c = one_answer (stated g.S.ParseScalarValue.reading g.S.ScalarValue.of_bool)
