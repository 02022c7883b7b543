use Rattle.graphql_grammar.proofs.OneFault.{document_alike}
use Rattle.graphql_grammar.proofs.Errors.{document_error_alike}
use Rattle.graphql_grammar.proofs.laws.alike_documents.Goals as goal

pub returns-clause-accepted : goal.returns-clause-accepted
returns-clause-accepted g c = document_alike

pub returns-clause-refused : goal.returns-clause-refused
returns-clause-refused g c = λ at_end unexpected S. document_error_alike at_end unexpected S
