use Rattle.std.proofs.Common.{[], ap}
use Rattle.std.specs.Option.{unwrap_or}
use Rattle.juniper_nodes.specs.Literal.{of_block}
use Rattle.juniper_nodes.proofs.Public.{of_block_means}
use Rattle.firthnapkin_results.proofs.form.form_of.Goals as goal

pub returns-in-BlockString : goal.returns-in-BlockString
returns-in-BlockString c =
    rw c.in-BlockString.is (ap (λ o. of_block [] (unwrap_or o [])) (of_block_means [] _))
