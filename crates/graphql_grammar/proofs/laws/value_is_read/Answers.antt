use Rattle.graphql_grammar.proofs.Given.{value_given}
use Rattle.graphql_grammar.proofs.laws.value_is_read.Goals as goal

pub returns : goal.returns
returns g c = value_given
