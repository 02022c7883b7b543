use Rattle.juniper_tree.specs.Scalars.{stated}
use Rattle.juniper_documents.proofs.Sources.{alike_accepted, alike_refused_with}
use Rattle.juniper_documents.proofs.laws.alike_texts.Goals as goal

pub returns-clause-accepted : goal.returns-clause-accepted
returns-clause-accepted g c = alike_accepted (stated g.S.ParseScalarValue.reading g.S.ScalarValue.of_bool)

pub returns-clause-refused : goal.returns-clause-refused
returns-clause-refused g c = alike_refused_with (stated g.S.ParseScalarValue.reading g.S.ScalarValue.of_bool)
