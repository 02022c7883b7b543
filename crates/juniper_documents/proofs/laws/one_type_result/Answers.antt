use Rattle.juniper_documents.proofs.LiteralDecides.{one_type_result}
use Rattle.juniper_documents.proofs.laws.one_type_result.Goals as goal

pub returns : goal.returns
returns c = one_type_result
