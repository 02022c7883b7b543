use Rattle.graphql_grammar.proofs.Given.{type_given}
use Rattle.graphql_grammar.proofs.laws.type_is_read.Goals as goal

pub returns : goal.returns
returns g c = type_given
