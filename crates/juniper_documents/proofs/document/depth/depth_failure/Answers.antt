use Rattle.std.proofs.Common.{rules}
use Rattle.juniper_documents.proofs.document.depth.depth_failure.Goals as goal

pub returns-then-index : goal.returns-then-index
returns-then-index c = search rules
