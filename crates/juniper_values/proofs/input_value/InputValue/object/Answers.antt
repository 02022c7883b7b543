use Rattle.std.proofs.Common.{ap, ◌∙◌}
use Rattle.graphql_grammar.specs.Tree.{Object}
use Rattle.juniper_values.proofs.Trees.{view-Object}
use Rattle.juniper_values.proofs.input_value.InputValue.object.Goals as goal

pub returns-in-Ok : goal.returns-in-Ok
returns-in-Ok g c = view-Object (λ s. s) c.placed_fields.result ∙ ap Object c.placed_fields.ensures
