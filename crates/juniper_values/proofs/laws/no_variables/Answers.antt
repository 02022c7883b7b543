use Rattle.juniper_values.specs.View.{view}
use Rattle.juniper_values.proofs.Referring.{empty_without_variables}
use Rattle.juniper_values.proofs.laws.no_variables.Goals as goal

pub returns-clause-by_scalar : goal.returns-clause-by_scalar
returns-clause-by_scalar g c = λ v. empty_without_variables (view (λ s. s) v)

pub returns-clause-by_content : goal.returns-clause-by_content
returns-clause-by_content g c = λ v. empty_without_variables (view g.S.ParseScalarValue.content v)
