use Rattle.graphql_grammar.proofs.Readers.{one_document}
use Rattle.graphql_grammar.proofs.laws.one_document.Goals as goal

pub returns : goal.returns
returns g c = one_document
