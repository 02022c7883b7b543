use Rattle.juniper_documents.proofs.Promises.{break_reported}
use Rattle.juniper_documents.proofs.laws.lexer_failures_are_reported.Goals as goal

pub returns : goal.returns
returns c = break_reported
