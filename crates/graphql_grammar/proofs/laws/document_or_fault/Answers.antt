use Rattle.graphql_grammar.proofs.OneFault.{one_fault}
use Rattle.graphql_grammar.proofs.Begun.{alike_document_at_fault, document_or_refused}
use Rattle.graphql_grammar.proofs.Errors.{document_or_error}
use Rattle.graphql_grammar.proofs.laws.document_or_fault.Goals as goal

pub returns-clause-either : goal.returns-clause-either
returns-clause-either g c = λ at_end unexpected S. document_or_error at_end unexpected S

pub returns-clause-one : goal.returns-clause-one
returns-clause-one g c =
    λ S ts us vs t u h k. one_fault S ts us vs t u (alike_document_at_fault S ts us t h) (alike_document_at_fault S ts vs u k)

pub returns-clause-never_both : goal.returns-clause-never_both
returns-clause-never_both g c = document_or_refused
