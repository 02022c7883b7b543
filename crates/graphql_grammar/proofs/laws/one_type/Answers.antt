use Rattle.graphql_grammar.proofs.Readers.{one_type}
use Rattle.graphql_grammar.proofs.laws.one_type.Goals as goal

pub returns : goal.returns
returns c = one_type
