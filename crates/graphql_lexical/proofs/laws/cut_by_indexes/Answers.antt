use Rattle.graphql_lexical.proofs.CutByTexts.{by_places, by_texts, breaks_by_places, breaks_by_texts}
use Rattle.graphql_lexical.proofs.laws.cut_by_indexes.Goals as goal

pub returns-clause-cut : goal.returns-clause-cut
returns-clause-cut c = λ source lexemes. (by_texts source lexemes, by_places source lexemes)

pub returns-clause-broken : goal.returns-clause-broken
returns-clause-broken c = λ source error at. (breaks_by_texts source error at, breaks_by_places source error at)
