use Rattle.juniper_tree.specs.Scalars.{stated}
use Rattle.juniper_documents.proofs.LiteralDecides.{one_value_result}
use Rattle.juniper_documents.proofs.laws.one_value_result.Goals as goal

pub returns : goal.returns
returns g c = one_value_result (stated g.S.ParseScalarValue.reading g.S.ScalarValue.of_bool)
