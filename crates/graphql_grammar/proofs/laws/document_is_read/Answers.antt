use Rattle.graphql_grammar.proofs.Given.{document_given}
use Rattle.graphql_grammar.proofs.laws.document_is_read.Goals as goal

pub returns : goal.returns
returns g c = document_given
