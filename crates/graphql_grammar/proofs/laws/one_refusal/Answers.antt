use Rattle.graphql_grammar.proofs.Errors.{one_document_error}
use Rattle.graphql_grammar.proofs.laws.one_refusal.Goals as goal

pub returns : goal.returns
returns g c = λ at_end unexpected S. one_document_error at_end unexpected S
