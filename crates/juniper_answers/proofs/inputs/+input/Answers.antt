use Rattle.std.proofs.Common.{rules, ◌≡◌, ◌+◌, ◌*◌, [], ◌∷◌, ◌++◌, arith, refl, ◌∙◌, ap, sym, append_assoc, String, Global}
use Rattle.std.proofs.lemmas.List.{at_drop_all}
use Rattle.graphql_grammar.specs.Tree as input
use Rattle.juniper_values.specs.View.{view as input_view, view_items}
use Rattle.juniper_values.specs.declared.input_value.InputValue.{the_lemmas}
use Rattle.juniper_values.specs.declared.input_value.InputValue.TheVariants as InputValue
use Rattle.juniper_values.proofs.Public.{drop_read, prepend, turn, put_item, put_field, view_items-prepend, view_fields-prepend, view-Object as input-Object}
use Rattle.juniper_answers.specs.Input.{as_input, items_as_input, fields_as_input}
use Rattle.juniper_answers.specs.View.{view, items_view, fields_view, pairs}
use Rattle.juniper_answers.specs.declared.value.Object.{size-Object}
use Rattle.juniper_answers.specs.declared.value.Value.{Value, size-Value}
use Rattle.juniper_answers.proofs.Copies.{most_within}
use Rattle.juniper_answers.proofs.Sizes.{below_object}
use Rattle.juniper_answers.proofs.Views.{view-List, view-Object}
use Rattle.juniper_answers.proofs.inputs.+input.Goals as goal

pub input_of-returns-in_ok-input_fields-in-Object : goal.input_of-returns-in_ok-input_fields-in-Object
input_of-returns-in_ok-input_fields-in-Object g t c =
    let content = g.S.ParseScalarValue.content in
    input-Object content c.in_ok-input_fields-in-Object.field-0 ∙ ap input.Object c.in_ok-input_fields-in-Object.ensures
    ∙ ap as_input (sym (ap (view content) c.in-Object.is ∙ view-Object content c.in-Object.object))

pub input_items-loop-item-preserved : goal.input_items-loop-item-preserved
input_items-loop-item-preserved g t c =
    let content = g.S.ParseScalarValue.content in
    turn (put_item content) _ _ c.unlocated.result _ _ _ c.loop-item.invariant c.in_ok-push.ensures.items
    (ap (λ xs. items_as_input (items_view content xs))
    (drop_read c.deref-item-items.result.now c.loop-item.item-index c.item-item.result c.loop-item-test.true
    c.item-item.is)
    ∙ rw (c.unlocated.ensures, c.in_ok-input_of.ensures) refl)

pub input_items-returns : goal.input_items-returns
input_items-returns g t c =
    let content = g.S.ParseScalarValue.content in
    view_items-prepend content c.loop-item.made.items
    ∙ ap (prepend (put_item content) c.loop-item.made.items)
    (sym (at_drop_all (λ xs. items_as_input (items_view content xs)) c.deref-item-items.result.now
    c.loop-item.item-index c.loop-item-test.false))
    ∙ c.loop-item.invariant ∙ ap (λ xs. items_as_input (items_view content xs)) c.deref-item-items.ensures.value

pub input_fields-input_of-requires : goal.input_fields-input_of-requires
input_fields-input_of-requires g t c =
    let i = c.loop-key.invariant.split in
    let m = most_within (size-Value g.row.S.Denot) (pairs c.args.object.now) i.0 c.next.new.self
    (c.in-Some.key.now, c.in-Some.value.now) (i.1 ∙ ap (λ es. i.0 ++ es) c.in-Some.ensures.steps) in
    let e : 2 * size-Object g.row.S.Denot c.args.object.now + 1 ≡ t = c.decreases in
    λ κs h. (omega (arith, m, e, below_object g.row.S.Denot c.args.object.now), h)

pub input_fields-loop-key-init : goal.input_fields-loop-key-init
input_fields-loop-key-init g t c =
    let content = g.S.ParseScalarValue.content in
    let start : pairs c.args.object.now ≡ c.into_iter-key-iterator.result = sym c.iter-key-items.ensures.rest
    ∙ sym c.into_iter-key-iterator.ensures.into_iter_gives in
    record {
      split = ([], start);
      made = ap (λ ys. prepend (put_field content) ys (fields_as_input
          (fields_view content c.into_iter-key-iterator.result))) c.in_ok-made.ensures.items
          ∙ ap (λ es. fields_as_input (fields_view content es)) (sym start);
    }

pub input_fields-loop-key-preserved : goal.input_fields-loop-key-preserved
input_fields-loop-key-preserved g t c =
    let content = g.S.ParseScalarValue.content in
    let i = c.loop-key.invariant in
    let e : String Global × Value g.row.S.Denot = (c.in-Some.key.now, c.in-Some.value.now) in
    record {
      split = (
        i.split.0 ++ e ∷ [],
        i.split.1 ∙ ap (λ es. i.split.0 ++ es) c.in-Some.ensures.steps
            ∙ sym (append_assoc i.split.0 (e ∷ []) c.next.new.self),
      );
      made =
          turn (put_field content) _ _ (c.unlocated.result, c.unlocated-in-loop-key.result) _ _ _ i.made
          c.in_ok-push.ensures.items
          (ap (λ es. fields_as_input (fields_view content es)) c.in-Some.ensures.steps
          ∙ rw (
            c.unlocated.ensures,
            c.unlocated-in-loop-key.ensures,
            c.in_ok-input.ensures,
            c.in_ok-name.ensures.cases,
          ) refl);
    }

pub input_fields-returns : goal.input_fields-returns
input_fields-returns g t c =
    let content = g.S.ParseScalarValue.content in
    view_fields-prepend content c.loop-key.made.items
    ∙ ap (λ es. prepend (put_field content) c.loop-key.made.items (fields_as_input (fields_view content es)))
    (sym c.in-None.ensures.steps.0)
    ∙ c.loop-key.invariant.made

pub input_of-returns-in_ok-input_items-in-List : goal.input_of-returns-in_ok-input_items-in-List
input_of-returns-in_ok-input_items-in-List g t c =
    let content = g.S.ParseScalarValue.content in
    let items = c.in_ok-input_items-in-List.field-0 in
    let made : input_view content (InputValue.List items) ≡ input.ListOf (view_items content items.items) =
    search (rules, the_lemmas) in
    made ∙ ap input.ListOf c.in_ok-input_items-in-List.ensures
    ∙ ap as_input (sym (ap (view content) c.in-List.is ∙ view-List content c.in-List.items))
