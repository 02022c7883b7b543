use Rattle.juniper_tree.specs.Scalars.{stated}
use Rattle.juniper_documents.proofs.DepthLimits.{one_too_deep}
use Rattle.juniper_documents.proofs.laws.one_too_deep.Goals as goal

pub returns : goal.returns
returns g c = one_too_deep (stated g.S.ParseScalarValue.reading g.S.ScalarValue.of_bool)
