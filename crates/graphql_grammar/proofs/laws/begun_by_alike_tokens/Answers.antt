use Rattle.graphql_grammar.proofs.Begun.{to_begins, from_begins}
use Rattle.graphql_grammar.proofs.laws.begun_by_alike_tokens.Goals as goal

pub returns-clause-alike : goal.returns-clause-alike
returns-clause-alike g c = to_begins

pub returns-clause-begins : goal.returns-clause-begins
returns-clause-begins g c = from_begins
