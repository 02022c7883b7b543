use Rattle.graphql_grammar.proofs.Spelling.{sample_spelled}
use Rattle.graphql_grammar.proofs.laws.samples_are_spelled.Goals as goal

pub returns : goal.returns
returns c = sample_spelled
