use Rattle.graphql_grammar.proofs.OtherScalars.{document}
use Rattle.graphql_grammar.proofs.laws.other_scalars.Goals as goal

pub returns : goal.returns
returns g c S T ts ds truths = document S T truths ts ds
