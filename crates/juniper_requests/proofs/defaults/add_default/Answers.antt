use Rattle.std.proofs.Common.{Some, option_map, sym, ap, ◌∙◌}
use Rattle.juniper_values.specs.View.{view}
use Rattle.juniper_requests.proofs.Variables.{given_stays, default_added, given_kept}
use Rattle.juniper_requests.proofs.defaults.add_default.Goals as goal

pub returns-then-contains_key-clause-values : goal.returns-then-contains_key-clause-values
returns-then-contains_key-clause-values g c =
    let content = g.S.ParseScalarValue.content in
    given_stays (view content) c.args.name.now c.utf8.name c.args.all.now
    (option_map (λ v. view content v.item) c.args.default_value.now) c.if-contains_key.ensures

pub returns-clause-values : goal.returns-clause-values
returns-clause-values g c =
    let content = g.S.ParseScalarValue.content in
    let copy = c.in_ok-try_clone.field-0 in
    default_added (view content) c.args.name.now c.utf8.name c.args.all.now c.in_ok-key.key c.insert.new.self copy
    c.in_ok-key.ensures.ok c.in_ok-insert.ensures.updates c.if-contains_key.ensures
    (option_map (λ v. view content v.item) c.args.default_value.now)
    (ap (option_map (λ v. view content v.item)) c.in-Some.is ∙ ap (λ v. Some v) (sym c.in_ok-try_clone.ensures))

pub returns-clause-kept : goal.returns-clause-kept
returns-clause-kept g c =
    given_kept (view (λ s. s)) c.args.name.now c.utf8.name c.args.all.now c.in_ok-key.key c.insert.new.self
    c.in_ok-try_clone.field-0 c.in_ok-key.ensures.ok c.in_ok-insert.ensures.updates c.if-contains_key.ensures
