use Rattle.graphql_grammar.proofs.Readers.{one_value}
use Rattle.graphql_grammar.proofs.laws.one_value.Goals as goal

pub returns : goal.returns
returns g c = one_value
