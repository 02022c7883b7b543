use Rattle.juniper_tree.specs.Scalars.{stated}
use Rattle.juniper_documents.proofs.Refusals.{by_clauses, by_cases, by_cases_in_text}
use Rattle.juniper_documents.proofs.laws.refusals_by_clauses.Goals as goal

pub returns-clause-clauses : goal.returns-clause-clauses
returns-clause-clauses g c = by_cases (stated g.S.ParseScalarValue.reading g.S.ScalarValue.of_bool)

pub returns-clause-in_characters : goal.returns-clause-in_characters
returns-clause-in_characters g c = by_cases_in_text (stated g.S.ParseScalarValue.reading g.S.ScalarValue.of_bool)

pub returns-clause-cases : goal.returns-clause-cases
returns-clause-cases g c = by_clauses (stated g.S.ParseScalarValue.reading g.S.ScalarValue.of_bool)
