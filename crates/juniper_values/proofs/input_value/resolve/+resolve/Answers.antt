use Rattle.std.proofs.Common.{rules, arith, refl, ◌≡◌, ◌∙◌, ◌++◌, List, ap, sym, subst, String, Global}
use Rattle.std.specs.Vec.Iter.{into_iter_items}
use Rattle.juniper_tokens.specs.declared.span.Spanning.{Spanning}
use Rattle.std.specs.Prelude.{IfOk, Some, option_map}
use Rattle.juniper_values.specs.declared.input_value.InputValue.{InputValue, the_lemmas}
use Rattle.juniper_values.specs.Resolve.{Becomes, ItemsBecome, FieldsBecome}
use Rattle.graphql_grammar.specs.Tree.{Value, Enum, Variable, no_items, no_fields}
use Rattle.juniper_values.specs.View.{view, view_items, view_fields, values_in, text_of}
use Rattle.juniper_values.specs.declared.input_value.InputValue.TheShapes.{weighed-InputValue-Object-0-at-4}
use Rattle.juniper_values.proofs.Moves.{list_becomes, object_becomes, item_becomes, field_becomes, field_goes}
use Rattle.juniper_values.proofs.Reading.{part_within, taken, turn_for_each, nothing_left}
use Rattle.juniper_values.proofs.Trees.{put_item, put_field, view_items-prepend, view_fields-prepend}
use Rattle.juniper_values.proofs.input_value.InputValue.TheLaws.{the_size}
use Rattle.juniper_values.proofs.input_value.resolve.+resolve.Goals as goal

pub constant-returns-in_ok-constant_items-in-List : goal.constant-returns-in_ok-constant_items-in-List
constant-returns-in_ok-constant_items-in-List g t c =
    list_becomes g.S.PartialEq.eq (values_in (λ s. s) c.args.values.now) c.args.value c.in-List.items
    c.in_ok-constant_items-in-List.field-0 c.in-List.is c.in_ok-constant_items-in-List.ensures

pub constant-returns-in_ok-constant_fields-in-Object : goal.constant-returns-in_ok-constant_fields-in-Object
constant-returns-in_ok-constant_fields-in-Object g t c =
    object_becomes g.S.PartialEq.eq (values_in (λ s. s) c.args.values.now) c.args.value c.in-Object.fields
    c.in_ok-constant_fields-in-Object.field-0 c.in-Object.is c.in_ok-constant_fields-in-Object.ensures

pub constant_fields-constant-requires : goal.constant_fields-constant-requires
constant_fields-constant-requires g t c κs within =
    let h = part_within ((weighed-InputValue-Object-0-at-4 g.row.S.Denot).weight _ (the_size g.row.S g.S.laws))
    c.args.fields.items c.loop-field.yielded c.in-Some.field _
    (c.loop-field.invariant.split ∙ ap (λ xs. c.loop-field.yielded ++ xs) c.in-Some.ensures.steps.0) in
    let d = c.decreases in
    (omega (arith, h, d), search rules)

pub constant_items-loop-item-preserved : goal.constant_items-loop-item-preserved
constant_items-loop-item-preserved g t c =
    let Becoming = ItemsBecome g.S.PartialEq.eq (values_in (λ s. s) c.args.values.now) in
    turn_for_each (put_item (λ s. s))
    (Becoming (view_items (λ s. s) (into_iter_items c.loop-item.item-iterator)))
    (Becoming (view_items (λ s. s) (into_iter_items c.next.new.self)))
    (Becoming (view_items (λ s. s) c.args.items.items))
    c.loop-item.done.items c.push.new.self.items c.new.result c.loop-item.invariant c.in_ok-push.ensures.items
    (λ rest h.
    item_becomes g.S.PartialEq.eq (values_in (λ s. s) c.args.values.now) _ _ c.in-Some.item c.new.result
    c.in_ok-constant.field-0 rest c.in-Some.ensures.steps.0
    (rw (c.new.ensures, c.unwrap_or-value.ensures) refl) c.in_ok-constant.ensures h)

pub constant_items-returns : goal.constant_items-returns
constant_items-returns g t c =
    let Becoming = ItemsBecome g.S.PartialEq.eq (values_in (λ s. s) c.args.values.now) in
    let nothing = nothing_left c.loop-item.item-iterator c.in-None.ensures.steps.0 in
    subst (Becoming (view_items (λ s. s) c.args.items.items)) (sym (view_items-prepend (λ s. s) c.loop-item.done.items))
    (c.loop-item.invariant no_items (subst (λ (xs : List (Spanning (InputValue g.row.S.Denot))). Becoming
    (view_items (λ s. s) xs) no_items) (sym nothing) refl))

pub constant_fields-loop-field-preserved-in-Continue-branch-4 :
    goal.constant_fields-loop-field-preserved-in-Continue-branch-4
constant_fields-loop-field-preserved-in-Continue-branch-4 g t c =
    let Becoming = FieldsBecome g.S.PartialEq.eq (values_in (λ s. s) c.args.values.now) in
    let x = c.in-Some.field in
    record {
      split = taken c.args.fields.items c.loop-field.yielded _ x _ c.loop-field.invariant.split
          c.in-Some.ensures.steps.0;
      made =
          turn_for_each (put_field (λ s. s))
          (Becoming (view_fields (λ s. s) (into_iter_items c.loop-field.field-iterator)))
          (Becoming (view_fields (λ s. s) (into_iter_items c.next.new.self)))
          (Becoming (view_fields (λ s. s) c.args.fields.items))
          c.loop-field.done.items c.push.new.self.items (x.0, c.new.result) c.loop-field.invariant.made
          c.in_ok-push.ensures.items
          (λ rest h.
          field_becomes g.S.PartialEq.eq (values_in (λ s. s) c.args.values.now) _ _ x c.new.result c.in_ok-value.field-0
          c.in-Some-2.value rest c.in-Some.ensures.steps.0 c.new.ensures
          c.in-Some-2.is c.in_ok-value.ensures h);
    }

pub constant_fields-loop-field-preserved : goal.constant_fields-loop-field-preserved
constant_fields-loop-field-preserved g t c =
    let x = c.in-Some.field in
    record {
      split = taken c.args.fields.items c.loop-field.yielded _ x _ c.loop-field.invariant.split
          c.in-Some.ensures.steps.0;
      made = λ rest h.
          c.loop-field.invariant.made rest
          (field_goes g.S.PartialEq.eq (values_in (λ s. s) c.args.values.now) _ _ x c.in_ok-value.field-0 rest
          c.in-Some.ensures.steps.0 c.in_default.is c.in_ok-value.ensures h);
    }

pub constant_fields-returns : goal.constant_fields-returns
constant_fields-returns g t c =
    let Becoming = FieldsBecome g.S.PartialEq.eq (values_in (λ s. s) c.args.values.now) in
    let nothing = nothing_left c.loop-field.field-iterator c.in-None.ensures.steps.0 in
    subst (Becoming (view_fields (λ s. s) c.args.fields.items))
    (sym (view_fields-prepend (λ s. s) c.loop-field.done.items))
    (c.loop-field.invariant.made no_fields
    (subst (λ (xs : List (Spanning (String Global) × Spanning (InputValue g.row.S.Denot))). Becoming
    (view_fields (λ s. s) xs) no_fields) (sym nothing) refl))

pub constant-returns-in-Enum : goal.constant-returns-in-Enum
constant-returns-in-Enum g t c =
    let new : view (λ s. s) (InputValue.Enum c.in-Enum.name) ≡ Enum (text_of c.in-Enum.name) = search (rules, the_lemmas) in
    subst (λ (w : Value g.row.S.Denot). Becomes g.S.PartialEq.eq (values_in (λ s. s) c.args.values.now) w
    (Some (view (λ s. s) (InputValue.Enum c.in-Enum.name))))
    (sym (ap (view (λ s. s)) c.in-Enum.is ∙ new)) (ap Some new)

pub constant-returns-in-Variable : goal.constant-returns-in-Variable
constant-returns-in-Variable g t c =
    let name = c.in-Variable.name in
    let seen : view (λ s. s) c.args.value ≡ Variable (text_of name) = search (rules, the_lemmas, c.in-Variable.is) in
    subst (λ (w : Value g.row.S.Denot). IfOk c.value_of.result (λ o. Becomes g.S.PartialEq.eq
    (values_in (λ s. s) c.args.values.now) w (option_map (view (λ s. s)) o)))
    (sym seen) c.value_of.ensures
