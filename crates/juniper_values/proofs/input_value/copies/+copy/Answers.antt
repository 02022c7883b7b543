use Rattle.std.proofs.Common.{rules, arith, refl, ◌≡◌, ◌∙◌, ap, sym}
use Rattle.graphql_grammar.specs.Tree.{Scalar, ListOf, Object}
use Rattle.juniper_values.specs.View.{view, view_items, view_fields}
use Rattle.juniper_values.specs.declared.input_value.InputValue.{the_lemmas}
use Rattle.juniper_values.specs.declared.input_value.InputValue.TheVariants as InputValue
use Rattle.std.proofs.lemmas.List.{at_drop_all}
use Rattle.juniper_values.proofs.Reading.{drop_read, within_most, prepend, turn}
use Rattle.juniper_values.proofs.Trees.{put_item, put_field, view-List, view-Object, view_items-prepend, view_fields-prepend}
use Rattle.juniper_values.proofs.input_value.copies.+copy.Goals as goal
use Rattle.juniper_values.proofs.input_value.InputValue.TheLaws.{the_size}
use Rattle.juniper_values.specs.declared.input_value.InputValue.TheShapes.{weighed-InputValue-Object-0-at-4}

pub copy_fields-copy-requires : goal.copy_fields-copy-requires
copy_fields-copy-requires g t c κs within =
    let x = c.field-item.result in
    let h = within_most ((weighed-InputValue-Object-0-at-4 g.row.S.Denot).weight _ (the_size g.row.S g.S.laws))
    c.args.fields.now.items c.loop-field.field-index x
    (rw c.deref-field-items.ensures.value at c.loop-field-test.true)
    (rw c.deref-field-items.ensures.value at c.field-item.is) in
    let d = c.decreases in
    (omega (arith, h, d), search rules)

pub copy_items-loop-item-preserved : goal.copy_items-loop-item-preserved
copy_items-loop-item-preserved g t c =
    let content = g.S.ParseScalarValue.content in
    let x = c.item-item.result in
    turn (put_item content) _ _ c.new.result _ _ _ c.loop-item.invariant c.in_ok-push.ensures.items
    (ap (view_items content) (drop_read c.deref-item-items.result.now c.loop-item.item-index x c.loop-item-test.true
    c.item-item.is)
    ∙ rw (c.new.ensures, c.in_ok-copy.ensures) refl)

pub copy_fields-loop-field-preserved : goal.copy_fields-loop-field-preserved
copy_fields-loop-field-preserved g t c =
    let content = g.S.ParseScalarValue.content in
    let x = c.field-item.result in
    turn (put_field content) _ _ (c.new-key.result, c.new-value.result) _ _ _ c.loop-field.invariant
    c.in_ok-push.ensures.items
    (ap (view_fields content) (drop_read c.deref-field-items.result.now c.loop-field.field-index x
    c.loop-field-test.true c.field-item.is)
    ∙ rw (c.new-key.ensures, c.new-value.ensures, c.in_ok-copy.ensures, c.in_ok-copied.ensures) refl)

pub copy_items-returns : goal.copy_items-returns
copy_items-returns g t c =
    let content = g.S.ParseScalarValue.content in
    view_items-prepend content c.loop-item.copies.items
    ∙ ap (prepend (put_item content) c.loop-item.copies.items)
    (sym (at_drop_all (view_items content) c.deref-item-items.result.now c.loop-item.item-index
    c.loop-item-test.false))
    ∙ c.loop-item.invariant ∙ ap (view_items content) c.deref-item-items.ensures.value

pub copy_fields-returns : goal.copy_fields-returns
copy_fields-returns g t c =
    let content = g.S.ParseScalarValue.content in
    view_fields-prepend content c.loop-field.copies.items
    ∙ ap (prepend (put_field content) c.loop-field.copies.items)
    (sym (at_drop_all (view_fields content) c.deref-field-items.result.now c.loop-field.field-index
    c.loop-field-test.false))
    ∙ c.loop-field.invariant ∙ ap (view_fields content) c.deref-field-items.ensures.value

pub copy-returns-in_ok-try_clone-in-Scalar : goal.copy-returns-in_ok-try_clone-in-Scalar
copy-returns-in_ok-try_clone-in-Scalar g t c =
    let content = g.S.ParseScalarValue.content in
    let new = c.in_ok-try_clone-in-Scalar.field-0 in
    let made : view content (InputValue.Scalar new) ≡ Scalar (content new) = search (rules, the_lemmas) in
    let seen : view content c.args.value.now ≡ Scalar (content c.in-Scalar.scalar) = search (rules, the_lemmas, c.in-Scalar.is) in
    made ∙ ap Scalar c.in_ok-try_clone-in-Scalar.ensures ∙ sym seen

pub copy-returns-in_ok-copy_items-in-List : goal.copy-returns-in_ok-copy_items-in-List
copy-returns-in_ok-copy_items-in-List g t c =
    let content = g.S.ParseScalarValue.content in
    view-List content c.in_ok-copy_items-in-List.field-0 ∙ ap ListOf c.in_ok-copy_items-in-List.ensures
    ∙ sym (ap (view content) c.in-List.is ∙ view-List content c.in-List.items)

pub copy-returns-in_ok-copy_fields-in-Object : goal.copy-returns-in_ok-copy_fields-in-Object
copy-returns-in_ok-copy_fields-in-Object g t c =
    let content = g.S.ParseScalarValue.content in
    view-Object content c.in_ok-copy_fields-in-Object.field-0 ∙ ap Object c.in_ok-copy_fields-in-Object.ensures
    ∙ sym (ap (view content) c.in-Object.is ∙ view-Object content c.in-Object.fields)
