use Rattle.std.proofs.Common.{true, ◌≡◌, ◌+◌, ◌*◌, ◌∷◌, refl, sym, ap, subst, ◌∙◌, ◌++◌, [], arith}
use Rattle.std.proofs.Common.{append_assoc, String, Global, string_bytes}
use Rattle.std.specs.Prelude.{codes}
use Rattle.std.specs.Str.{chars}
use Rattle.std.proofs.Output.{has_written_of_eq}
use lib.Utf8.{encodes}
use Rattle.graphql_lexical.specs.Display.{quoted}
use Rattle.juniper_values.specs.ScalarDisplay.{scalar_display}
use Rattle.juniper_values.proofs.Public.{TextsLeft, Writes, none_written, next_written, all_written}
use Rattle.juniper_values.proofs.Public.{between, key_and_value}
use Rattle.juniper_answers.specs.Display.{data_text}
use Rattle.juniper_answers.specs.View.{shape, pairs}
use Rattle.juniper_answers.specs.declared.value.Object.{size-Object}
use Rattle.juniper_answers.specs.declared.value.Value.{Value, size-Value}
use Rattle.juniper_answers.proofs.Copies.{most_within}
use Rattle.juniper_answers.proofs.DataTexts.{texts_of_fields, list_text, object_text, item_next, no_item}
use Rattle.juniper_answers.proofs.Sizes.{below_object}
use Rattle.juniper_answers.proofs.Views.{view-Scalar}
use Rattle.juniper_answers.proofs.display.+display.Goals as goal

pub write_items-loop-item-preserved : goal.write_items-loop-item-preserved
write_items-loop-item-preserved g t c =
    next_written c.loop-item.invariant (item_next _ _ _ _ c.loop-item-test.true c.item-item.is)
    (λ q. c.in_ok-write_separator.ensures q refl) (λ q. c.in_ok-write_value.ensures q refl)

pub write_items-returns : goal.write_items-returns
write_items-returns g t c p ok =
    rw (← c.deref-item-items.ensures.value) (all_written c.loop-item.invariant
    (no_item _ c.deref-item-items.result.now c.loop-item.item-index (omega arith)) p)

pub write_fields-write_value-requires : goal.write_fields-write_value-requires
write_fields-write_value-requires g t c =
    let i = c.loop-key.invariant.split in
    let m = most_within (size-Value g.row.S.Denot) (pairs c.args.object.now) i.0 c.next.new.self
    (c.in-Some.key.now, c.in-Some.value.now) (i.1 ∙ ap (λ es. i.0 ++ es) c.in-Some.ensures.steps) in
    let e : 2 * size-Object g.row.S.Denot c.args.object.now + 1 ≡ t = c.decreases in
    λ κs h. (omega (arith, m, e, below_object g.row.S.Denot c.args.object.now), h)

pub write_fields-loop-key-init : goal.write_fields-loop-key-init
write_fields-loop-key-init g t c =
    let shown = scalar_display g.S.ParseScalarValue.content g.S.ScalarValue.str_in g.S.ScalarValue.shown in
    let took = g.W.Write.write_str_gives in
    let start : pairs c.args.object.now ≡ c.into_iter-key-iterator.result = sym c.iter-key-items.ensures.rest
    ∙ sym c.into_iter-key-iterator.ensures.into_iter_gives in
    record {
      split = ([], start);
      written = subst (λ es. TextsLeft took c.args.f.now (texts_of_fields shown (pairs c.args.object.now)) true
          (texts_of_fields shown es) c.args.f.now) start (none_written _ _);
    }

pub write_fields-loop-key-preserved : goal.write_fields-loop-key-preserved
write_fields-loop-key-preserved g t c =
    let i = c.loop-key.invariant in
    let rest = c.next.new.self in
    let e : String Global × Value g.row.S.Denot = (c.in-Some.key.now, c.in-Some.value.now) in
    let shown = scalar_display g.S.ParseScalarValue.content g.S.ScalarValue.str_in g.S.ScalarValue.shown in
    let took = g.W.Write.write_str_gives in
    record {
      split = (
        i.split.0 ++ e ∷ [],
        i.split.1 ∙ ap (λ es. i.split.0 ++ es) c.in-Some.ensures.steps
            ∙ sym (append_assoc i.split.0 (e ∷ []) rest),
      );
      written = next_written i.written (ap (texts_of_fields shown) c.in-Some.ensures.steps)
          (λ q. c.in_ok-write_separator.ensures q refl)
          (key_and_value (quoted (chars (string_bytes e.0))) (codes ": ") _
          (subst (λ bs. Writes took c.write_separator.new.f (quoted (chars bs) ++ codes ": ") c.write_key.new.f)
          c.as_str.ensures.value (λ q. c.in_ok-write_key.ensures q refl))
          (λ q. c.in_ok-write_value.ensures q refl));
    }

pub write_fields-returns : goal.write_fields-returns
write_fields-returns g t c p ok =
    let shown = scalar_display g.S.ParseScalarValue.content g.S.ScalarValue.str_in g.S.ScalarValue.shown in
    all_written c.loop-key.invariant.written
    (ap (texts_of_fields shown) c.in-None.ensures.steps.0) p

pub write_value-returns-in_ok-write_items-in-List :
    goal.write_value-returns-in_ok-write_items-in-List
write_value-returns-in_ok-write_items-in-List g t c p ok =
    between 91 93 _ (omega arith) (omega arith) (list_text _ _ _ c.in-List.is)
    (λ q. c.in_ok-write_str-in-List.ensures.writes q refl) (λ q. c.in_ok-write_items-in-List.ensures q refl)
    (λ q. c.write_str-in-List-2.ensures.writes q ok) p

pub write_value-returns-in_ok-write_fields-in-Object :
    goal.write_value-returns-in_ok-write_fields-in-Object
write_value-returns-in_ok-write_fields-in-Object g t c p ok =
    between 123 125 _ (omega arith) (omega arith) (object_text _ _ _ c.in-Object.is)
    (λ q. c.in_ok-write_str-in-Object.ensures.writes q refl) (λ q. c.in_ok-write_fields-in-Object.ensures q refl)
    (λ q. c.write_str-in-Object-2.ensures.writes q ok) p

pub write_value-returns-in-Scalar : goal.write_value-returns-in-Scalar
write_value-returns-in-Scalar g t c p ok =
    let shown = scalar_display g.S.ParseScalarValue.content g.S.ScalarValue.str_in g.S.ScalarValue.shown in
    let seen = ap shape c.in-Scalar.is ∙ view-Scalar (λ s. s) c.in-Scalar.scalar in
    has_written_of_eq _ _ _ _ _ (ap (λ v. encodes (data_text shown v)) (sym seen)) (c.write_scalar.ensures p ok)
