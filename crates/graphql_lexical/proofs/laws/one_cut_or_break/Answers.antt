use Rattle.graphql_lexical.proofs.Cuts.{one_cut_or_break}
use Rattle.graphql_lexical.proofs.laws.one_cut_or_break.Goals as goal

pub returns : goal.returns
returns c = one_cut_or_break
