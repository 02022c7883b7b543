use Rattle.std.proofs.Common.{◌≡◌, ◌+◌, ◌*◌, ◌<◌, [], ◌∷◌, ◌++◌, take, length, String, Global, sym, ap, ◌∙◌, subst, append_assoc, arith}
use Rattle.std.proofs.lemmas.Grind.{common_steps}
use Rattle.std.proofs.lemmas.List.{take_more}
use Rattle.std.specs.List.{IsDistinct}
use Rattle.std.specs.Map.{keys_of}
use Rattle.std.specs.String.{string_eq}
use Rattle.juniper_answers.specs.Copies.{Copies, CopiesItems, CopiesFields}
use Rattle.juniper_answers.specs.View.{pairs}
use Rattle.juniper_answers.specs.declared.value.Value.{Value, size-Value}
use Rattle.juniper_answers.specs.declared.value.Object.{size-Object}
use Rattle.juniper_answers.proofs.Sizes.{below_object}
use Rattle.juniper_answers.proofs.Copies.{all_zip_push, most_within, Copies-List, Copies-Object, put_last}
use Rattle.juniper_answers.proofs.Views.{view-Scalar}
use Rattle.juniper_answers.proofs.copy.+copy.Goals as goal

pub copy-returns-in_ok-copy_items-in-List : goal.copy-returns-in_ok-copy_items-in-List
copy-returns-in_ok-copy_items-in-List g t c =
    rw c.in-List.is (Copies-List (λ s u. g.S.ParseScalarValue.content u ≡ g.S.ParseScalarValue.content s)
    c.in-List.items c.in_ok-copy_items-in-List.field-0 c.in_ok-copy_items-in-List.ensures)

pub copy-returns-in_ok-copy_object-in-Object : goal.copy-returns-in_ok-copy_object-in-Object
copy-returns-in_ok-copy_object-in-Object g t c =
    rw c.in-Object.is (Copies-Object (λ s u. g.S.ParseScalarValue.content u ≡ g.S.ParseScalarValue.content s)
    c.in-Object.object c.in_ok-copy_object-in-Object.field-0 c.in_ok-copy_object-in-Object.ensures)

pub copy_object-copy-requires : goal.copy_object-copy-requires
copy_object-copy-requires g t c =
    let i = c.loop-key.invariant in
    let m = most_within (size-Value g.row.S.Denot) (pairs c.args.object.now) i.0 c.next.new.self
    (c.in-Some.key.now, c.in-Some.value.now) (i.1 ∙ ap (λ es. i.0 ++ es) c.in-Some.ensures.steps) in
    let e : 2 * size-Object g.row.S.Denot c.args.object.now + 1 ≡ t = c.decreases in
    λ κs h. (omega (arith, m, e, below_object g.row.S.Denot c.args.object.now), h)

pub copy_object-loop-key-init : goal.copy_object-loop-key-init
copy_object-loop-key-init g t c = (
  [],
  sym c.iter-key-items.ensures.rest ∙ sym c.into_iter-key-iterator.ensures.into_iter_gives,
  subst (CopiesFields (λ s u. g.S.ParseScalarValue.content u ≡ g.S.ParseScalarValue.content s) [])
      (sym c.in_ok-copies.ensures) tt,
)

pub copy_object-loop-key-preserved : goal.copy_object-loop-key-preserved
copy_object-loop-key-preserved g t c =
    let i = c.loop-key.invariant in
    let left = c.next.new.self in
    let e : String Global × Value g.row.S.Denot = (c.in-Some.key.now, c.in-Some.value.now) in
    let all : pairs c.args.object.now ≡ i.0 ++ e ∷ left = i.1 ∙ ap (λ es. i.0 ++ es) c.in-Some.ensures.steps in
    let R = λ (s u : g.row.S.Denot). g.S.ParseScalarValue.content u ≡ g.S.ParseScalarValue.content s in (
      i.0 ++ e ∷ [],
      all ∙ sym (append_assoc i.0 (e ∷ []) left),
      subst (CopiesFields R (i.0 ++ e ∷ [])) (sym c.in_ok-put.ensures)
          (put_last R i.0 left (pairs c.loop-key.copies) e c.in_ok-name.name c.in_ok-copy.field-0
          (subst (λ es. IsDistinct string_eq (keys_of es)) all c.iter-key-items.ensures.distinct)
          c.in_ok-name.ensures.cases i.2 c.in_ok-copy.ensures),
    )

pub copy_items-loop-item-preserved : goal.copy_items-loop-item-preserved
copy_items-loop-item-preserved g t c =
    let R = λ (s u : g.row.S.Denot). g.S.ParseScalarValue.content u ≡ g.S.ParseScalarValue.content s in
    let xs = c.deref-item-items.result.now in
    let i = c.loop-item.item-index in
    let within : i < length xs = omega arith in
    let more : take (i + 1) xs ≡ take i xs ++ c.item-item.result ∷ [] = take_more xs i c.item-item.result within
    ∙ ap (λ x. take i xs ++ x ∷ []) (sym c.item-item.is) in
    subst (λ vs. CopiesItems R vs c.push.new.self.items) (sym more)
    (subst (CopiesItems R (take i xs ++ c.item-item.result ∷ [])) (sym c.in_ok-push.ensures.items)
    (all_zip_push (Copies R) (take i xs) c.loop-item.copies.items c.item-item.result c.in_ok-copy.field-0
    c.loop-item.invariant c.in_ok-copy.ensures))

pub copy_items-returns : goal.copy_items-returns
copy_items-returns g t c = grind (arith, common_steps)

pub copy_object-returns : goal.copy_object-returns
copy_object-returns g t c = grind (arith, common_steps)

pub copy-returns-in_ok-try_clone-in-Scalar : goal.copy-returns-in_ok-try_clone-in-Scalar
copy-returns-in_ok-try_clone-in-Scalar g t c =
    let made = c.in_ok-try_clone-in-Scalar in
    rw (c.in-Scalar.is, view-Scalar (λ s. s) c.in-Scalar.scalar, view-Scalar (λ s. s) made.field-0) made.ensures
