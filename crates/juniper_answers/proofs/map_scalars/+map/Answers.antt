use Rattle.std.proofs.Common.{◌≡◌, ◌+◌, ◌*◌, [], ◌∷◌, ◌++◌, String, Global, refl, sym, ap, ◌∙◌, subst, append_assoc, append-nil, arith}
use Rattle.std.proofs.lemmas.Grind.{common_steps}
use Rattle.std.specs.List.{IsDistinct}
use Rattle.std.specs.Map.{keys_of}
use Rattle.std.specs.String.{string_eq}
use Rattle.juniper_values.proofs.Public.{taken, nothing_left}
use Rattle.juniper_answers.specs.Another.{IsAnother}
use Rattle.juniper_answers.specs.Copies.{Copies, CopiesItems, CopiesFields}
use Rattle.juniper_answers.specs.View.{pairs}
use Rattle.juniper_answers.specs.declared.value.Object.{size-Object}
use Rattle.juniper_answers.specs.declared.value.Value.{Value, size-Value}
use Rattle.juniper_answers.proofs.Sizes.{below_object}
use Rattle.juniper_answers.proofs.Copies.{all_zip_push, most_within, Copies-List, Copies-Object, put_last}
use Rattle.juniper_answers.proofs.Views.{view-Scalar}
use Rattle.juniper_answers.proofs.map_scalars.+map.Goals as goal

pub map_value-returns-in_ok-map_items-in-List : goal.map_value-returns-in_ok-map_items-in-List
map_value-returns-in_ok-map_items-in-List g t c =
    let R = IsAnother g.S.ParseScalarValue.content g.S.ScalarValue.int_in g.S.ScalarValue.bool_in
    g.S.ScalarValue.own_string_in g.T.ParseScalarValue.content g.T.ScalarValue.of_int g.T.ScalarValue.of_bool
    g.T.ScalarValue.of_text in
    rw c.in-List.is (Copies-List R c.in-List.items c.in_ok-map_items-in-List.field-0 c.in_ok-map_items-in-List.ensures)

pub map_value-returns-in_ok-map_object-in-Object : goal.map_value-returns-in_ok-map_object-in-Object
map_value-returns-in_ok-map_object-in-Object g t c =
    let R = IsAnother g.S.ParseScalarValue.content g.S.ScalarValue.int_in g.S.ScalarValue.bool_in
    g.S.ScalarValue.own_string_in g.T.ParseScalarValue.content g.T.ScalarValue.of_int g.T.ScalarValue.of_bool
    g.T.ScalarValue.of_text in
    rw c.in-Object.is (Copies-Object R c.in-Object.object c.in_ok-map_object-in-Object.field-0
    c.in_ok-map_object-in-Object.ensures)

pub map_items-loop-item-preserved : goal.map_items-loop-item-preserved
map_items-loop-item-preserved g t c =
    let R = IsAnother g.S.ParseScalarValue.content g.S.ScalarValue.int_in g.S.ScalarValue.bool_in
    g.S.ScalarValue.own_string_in g.T.ParseScalarValue.content g.T.ScalarValue.of_int g.T.ScalarValue.of_bool
    g.T.ScalarValue.of_text in
    let l = c.loop-item in
    let x = c.in-Some.item in
    record {
      split = taken c.args.items.items l.yielded _ x _ l.invariant.split c.in-Some.ensures.steps.0;
      made = subst (CopiesItems R (l.yielded ++ x ∷ [])) (sym c.in_ok-push.ensures.items)
          (all_zip_push (Copies R) l.yielded l.made.items x c.in_ok-map_value.field-0 l.invariant.made
          c.in_ok-map_value.ensures);
    }

pub map_items-returns : goal.map_items-returns
map_items-returns g t c =
    let R = IsAnother g.S.ParseScalarValue.content g.S.ScalarValue.int_in g.S.ScalarValue.bool_in
    g.S.ScalarValue.own_string_in g.T.ParseScalarValue.content g.T.ScalarValue.of_int g.T.ScalarValue.of_bool
    g.T.ScalarValue.of_text in
    let l = c.loop-item in
    let all = l.invariant.split ∙ ap (λ xs. l.yielded ++ xs) (nothing_left l.item-iterator c.in-None.ensures.steps.0)
    ∙ append-nil l.yielded in
    subst (λ xs. CopiesItems R xs l.made.items) (sym all) l.invariant.made

pub map_object-map_value-requires : goal.map_object-map_value-requires
map_object-map_value-requires g t c =
    let i = c.loop-key.invariant in
    let m = most_within (size-Value g.row.S.Denot) (pairs c.args.object) i.0 c.next.new.self
    (c.in-Some.key, c.in-Some.value) (i.1 ∙ ap (λ es. i.0 ++ es) c.in-Some.ensures.steps) in
    let e : 2 * size-Object g.row.S.Denot c.args.object + 1 ≡ t = c.decreases in
    λ κs h. (omega (arith, m, e, below_object g.row.S.Denot c.args.object), h)

pub map_object-loop-key-init : goal.map_object-loop-key-init
map_object-loop-key-init g t c =
    let R = IsAnother g.S.ParseScalarValue.content g.S.ScalarValue.int_in g.S.ScalarValue.bool_in
    g.S.ScalarValue.own_string_in g.T.ParseScalarValue.content g.T.ScalarValue.of_int g.T.ScalarValue.of_bool
    g.T.ScalarValue.of_text in (
      [],
      sym c.into_iter-key-items.ensures.rest ∙ sym c.into_iter-key-iterator.ensures.into_iter_gives,
      subst (CopiesFields R []) (sym c.in_ok-made.ensures) tt,
    )

pub map_object-loop-key-preserved : goal.map_object-loop-key-preserved
map_object-loop-key-preserved g t c =
    let i = c.loop-key.invariant in
    let rest = c.next.new.self in
    let e : String Global × Value g.row.S.Denot = (c.in-Some.key, c.in-Some.value) in
    let all : pairs c.args.object ≡ i.0 ++ e ∷ rest = i.1 ∙ ap (λ es. i.0 ++ es) c.in-Some.ensures.steps in
    let R = IsAnother g.S.ParseScalarValue.content g.S.ScalarValue.int_in g.S.ScalarValue.bool_in
    g.S.ScalarValue.own_string_in g.T.ParseScalarValue.content g.T.ScalarValue.of_int g.T.ScalarValue.of_bool
    g.T.ScalarValue.of_text in (
      i.0 ++ e ∷ [],
      all ∙ sym (append_assoc i.0 (e ∷ []) rest),
      subst (CopiesFields R (i.0 ++ e ∷ [])) (sym c.in_ok-put.ensures)
          (put_last R i.0 rest (pairs c.loop-key.made) e e.0 c.in_ok-map_value.field-0
          (subst (λ es. IsDistinct string_eq (keys_of es)) all c.into_iter-key-items.ensures.distinct) refl i.2
          c.in_ok-map_value.ensures),
    )

pub map_object-returns : goal.map_object-returns
map_object-returns g t c = grind (arith, common_steps)

pub map_value-returns-in_ok-into_another-in-Scalar : goal.map_value-returns-in_ok-into_another-in-Scalar
map_value-returns-in_ok-into_another-in-Scalar g t c =
    let made = c.in_ok-into_another-in-Scalar in
    rw (c.in-Scalar.is, view-Scalar (λ s. s) c.in-Scalar.scalar, view-Scalar (λ s. s) made.field-0) made.ensures
