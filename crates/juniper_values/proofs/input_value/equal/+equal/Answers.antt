use Rattle.std.proofs.Common.{refl, sym, ◌<◌, ◌&&◌, length, arith}
use Rattle.std.proofs.lemmas.Grind.{common_steps}
use Rattle.juniper_tokens.specs.Spans.{view_span}
use Rattle.juniper_values.specs.Text.{same_text}
use Rattle.juniper_values.specs.Equality.{same_span, same_value, same_items, same_fields}
use Rattle.juniper_values.specs.View.{view, view_items, view_fields, text_of}
use Rattle.juniper_values.proofs.Pairwise.{differ, failed}
use Rattle.juniper_values.proofs.BoolTests.{and_false}
use Rattle.juniper_values.proofs.input_value.equal.+equal.Goals as goal

pub equal_items-returns-then-len : goal.equal_items-returns-then-len
equal_items-returns-then-len g t c =
    let eq = g.S.PartialEq.eq in
    sym (differ (λ xs ys. same_items eq (view_items (λ s. s) xs) (view_items (λ s. s) ys))
    (λ x y. same_value eq (view (λ s. s) x.item) (view (λ s. s) y.item)
    && same_span (view_span x.span) (view_span y.span))
    refl (λ y ys. refl) (λ x xs. refl) (λ x y xs ys. refl) c.args.a.now.items c.args.b.now.items
    (λ e. omega (arith, c.args.a.now.ok.0, c.args.b.now.ok.0, e)))

pub equal_items-returns-then-not-equal : goal.equal_items-returns-then-not-equal
equal_items-returns-then-not-equal g t c =
    let eq = g.S.PartialEq.eq in
    let p : c.loop-i.i < length c.args.a.now.items = omega (arith, c.args.a.now.ok.0) in
    let q : c.loop-i.i < length c.args.b.now.items = omega (arith, c.args.a.now.ok.0, c.args.b.now.ok.0) in
    failed (λ xs ys. same_items eq (view_items (λ s. s) xs) (view_items (λ s. s) ys))
    (λ x y. same_value eq (view (λ s. s) x.item) (view (λ s. s) y.item)
    && same_span (view_span x.span) (view_span y.span))
    refl (λ y ys. refl) (λ x xs. refl) (λ x y xs ys. refl) _ _ _ _ _ p q c.index.ensures c.index-in-loop-i.ensures _
    c.loop-i.invariant (and_false _ _ (sym c.if-not-equal.ensures))

pub equal_fields-returns-then-len : goal.equal_fields-returns-then-len
equal_fields-returns-then-len g t c =
    let eq = g.S.PartialEq.eq in
    sym (differ (λ xs ys. same_fields eq (view_fields (λ s. s) xs) (view_fields (λ s. s) ys))
    (λ x y. (same_text (text_of x.0.item) (text_of y.0.item) && same_span (view_span x.0.span) (view_span y.0.span))
    && (same_value eq (view (λ s. s) x.1.item) (view (λ s. s) y.1.item)
    && same_span (view_span x.1.span) (view_span y.1.span)))
    refl (λ y ys. refl) (λ x xs. refl) (λ x y xs ys. refl) c.args.a.now.items c.args.b.now.items
    (λ e. omega (arith, c.args.a.now.ok.0, c.args.b.now.ok.0, e)))

pub equal_items-loop-i-preserved : goal.equal_items-loop-i-preserved
equal_items-loop-i-preserved g t c = grind (arith, common_steps)

pub equal_items-returns-then-not-same_span : goal.equal_items-returns-then-not-same_span
equal_items-returns-then-not-same_span g t c = grind (arith, common_steps)

pub equal_items-returns : goal.equal_items-returns
equal_items-returns g t c = grind (arith, common_steps)

pub equal_fields-loop-i-preserved : goal.equal_fields-loop-i-preserved
equal_fields-loop-i-preserved g t c = grind (arith, common_steps)

pub equal_fields-returns-then-not-same_key : goal.equal_fields-returns-then-not-same_key
equal_fields-returns-then-not-same_key g t c = grind (arith, common_steps)

pub equal_fields-returns-then-not-equal : goal.equal_fields-returns-then-not-equal
equal_fields-returns-then-not-equal g t c = grind (arith, common_steps)

pub equal_fields-returns-then-not-same_span : goal.equal_fields-returns-then-not-same_span
equal_fields-returns-then-not-same_span g t c = grind (arith, common_steps)

pub equal_fields-returns : goal.equal_fields-returns
equal_fields-returns g t c = grind (arith, common_steps)
