use Rattle.graphql_grammar.proofs.Readers.{value_front}
use Rattle.graphql_grammar.proofs.laws.value_front.Goals as goal

pub returns : goal.returns
returns g c = value_front
