use Rattle.graphql_grammar.proofs.Spelling.{cut_spelled, cut_ends}
use Rattle.graphql_grammar.proofs.laws.cut_is_spelled.Goals as goal

pub returns-clause-spelled : goal.returns-clause-spelled
returns-clause-spelled c = cut_spelled

pub returns-clause-ended : goal.returns-clause-ended
returns-clause-ended c = cut_ends
