use Rattle.graphql_grammar.proofs.Public.{document, document_is_read}
use Rattle.juniper_tree.specs.Scalars.{stated}
use Rattle.juniper_tree.proofs.laws.scalar_tokens.Goals as goal

pub returns-clause-read : goal.returns-clause-read
returns-clause-read g c = document_is_read (stated g.S.ParseScalarValue.reading g.S.ScalarValue.of_bool)

pub returns-clause-of_others : goal.returns-clause-of_others
returns-clause-of_others g c T ts tree truths =
    document T (stated g.S.ParseScalarValue.reading g.S.ScalarValue.of_bool) truths ts tree
