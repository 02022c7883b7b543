use Rattle.graphql_grammar.proofs.Begun.{alike_document_at_fault}
use Rattle.graphql_grammar.proofs.OneFault.{fault_completed}
use Rattle.graphql_grammar.proofs.laws.fault_completed.Goals as goal

pub returns : goal.returns
returns g c =
    λ S ts before t spelled ends h. fault_completed S ts before t spelled ends (alike_document_at_fault S ts before t h)
