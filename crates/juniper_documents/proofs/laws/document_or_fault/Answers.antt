use Rattle.juniper_tree.specs.Scalars.{stated}
use Rattle.juniper_documents.proofs.Sources.{either_refused, one_refused, never_both_refused}
use Rattle.juniper_documents.proofs.laws.document_or_fault.Goals as goal

pub returns-clause-either : goal.returns-clause-either
returns-clause-either g c = either_refused (stated g.S.ParseScalarValue.reading g.S.ScalarValue.of_bool)

pub returns-clause-one : goal.returns-clause-one
returns-clause-one g c = one_refused (stated g.S.ParseScalarValue.reading g.S.ScalarValue.of_bool)

pub returns-clause-never_both : goal.returns-clause-never_both
returns-clause-never_both g c = never_both_refused (stated g.S.ParseScalarValue.reading g.S.ScalarValue.of_bool)
