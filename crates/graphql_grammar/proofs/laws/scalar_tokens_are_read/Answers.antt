use Rattle.graphql_grammar.proofs.ReadScalars.{document_is_read}
use Rattle.graphql_grammar.proofs.laws.scalar_tokens_are_read.Goals as goal

pub returns : goal.returns
returns g c = document_is_read
