use Rattle.std.proofs.Common.{◌≡◌, option_map}
use Rattle.std.proofs.lemmas.Result.{IfOk-weaker}
use Rattle.juniper_values.specs.Resolve.{Becomes, resolve}
use Rattle.juniper_values.specs.View.{view, values_in}
use Rattle.juniper_values.proofs.Moves.{resolved_by_content}
use Rattle.juniper_values.proofs.input_value.InputValue.into_const.Goals as goal

pub returns-clause-resolved : goal.returns-clause-resolved
returns-clause-resolved g c =
    let content = g.S.ParseScalarValue.content in
    let m = c.args.values.now in
    IfOk-weaker c.constant.result
    (λ o. Becomes g.S.PartialEq.eq (values_in (λ s. s) m) (view (λ s. s) c.args.self) (option_map (view (λ s. s)) o))
    (λ o. option_map (view content) o ≡ resolve (values_in content m) (view content c.args.self))
    (resolved_by_content content g.S.PartialEq.eq (λ s t e. (g.met.S.ScalarValue.equal_by_content s t).0 e) m
    c.args.self) c.constant.ensures
