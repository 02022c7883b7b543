use Rattle.std.proofs.Common.{◌∙◌, ap, sym, option_map, None, Some}
use Rattle.std.specs.Option.{option_eq}
use Rattle.juniper_values.specs.Equality.{same_value}
use Rattle.juniper_values.specs.View.{view}
use Rattle.juniper_values.proofs.Copies.{copies_equal}
use Rattle.juniper_values.proofs.Texts.{found_by_text}
use Rattle.juniper_values.proofs.input_value.resolve.value_of.Goals as goal

pub returns-in-Some : goal.returns-in-Some
returns-in-Some g c =
    let same = option_eq (same_value g.S.PartialEq.eq) in
    let found = found_by_text c.args.name c.as_str.result.now c.args.values.now _ c.as_str.ensures.value
    c.in-Some.ensures.value in
    let copy = copies_equal g.S.ParseScalarValue.content g.S.PartialEq.eq
    (λ a b e. (g.met.S.ScalarValue.equal_by_content a b).1 e) c.in-Some.value.now c.in_ok-try_clone-in-Some.field-0
    (sym c.in_ok-try_clone-in-Some.ensures) in
    ap (λ o. same (option_map (view (λ s. s)) o) (Some (view (λ s. s) c.in_ok-try_clone-in-Some.field-0))) (sym found)
    ∙ copy

pub returns : goal.returns
returns g c =
    let same = option_eq (same_value g.S.PartialEq.eq) in
    ap (λ o. same (option_map (view (λ s. s)) o) None)
    (sym (found_by_text c.args.name c.as_str.result.now c.args.values.now _ c.as_str.ensures.value
    c.in-None.ensures.value))
