use Rattle.graphql_lexical.proofs.Answers.{finds_what_reads, misses_what_fails}
use Rattle.graphql_lexical.proofs.laws.scan_is_exact.Goals as goal

pub returns-clause-found : goal.returns-clause-found
returns-clause-found c = finds_what_reads

pub returns-clause-missed : goal.returns-clause-missed
returns-clause-missed c = misses_what_fails
