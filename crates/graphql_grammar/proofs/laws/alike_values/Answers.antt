use Rattle.graphql_grammar.proofs.OneFault.{value_alike}
use Rattle.graphql_grammar.proofs.laws.alike_values.Goals as goal

pub returns : goal.returns
returns g c = value_alike
