use Rattle.std.proofs.Common.{◌≡◌, ◌<◌, ◌≤◌, ◌∙◌, ℕ, inl, inr, ap, sym, subst, arith, length}
use Rattle.std.proofs.Math.Nat.{eq-or-lt_of_le}
use Rattle.juniper_values.specs.View.{view_fields}
use Rattle.juniper_values.specs.device.Sizes.{count_at, saturated}
use Rattle.juniper_values.proofs.Counts.{count_at-read}
use Rattle.juniper_values.proofs.input_value.compare.compared_once.Goals as goal
use Rattle.juniper_values.proofs.input_value.compare.compared_once.Goals.{then-most-size, else-most-size}

pub loop-i-preserved : goal.loop-i-preserved
loop-i-preserved g c =
    let fs = view_fields (λ s. s) c.args.fields.now.items in
    let i = c.loop-i.i in
    let inside : i < length c.args.fields.now.items = omega (arith, c.args.fields.now.ok.0) in
    let here : c.size-size.result ≡ saturated (count_at i fs) =
    c.size-size.ensures ∙ ap saturated (sym (count_at-read c.args.fields.now.items i c.index.result.now inside c.index.ensures)) in
    let before = c.loop-i.invariant in
    elim c.if-most-size.branch [
      | then-most-size w ↦ (
        subst (λ (n : ℕ). n < length c.args.fields.now.items) (sym w.at-is) inside,
        omega (arith, here, w.most-is, ap (λ n. saturated (count_at n fs)) w.at-is),
        λ j l. elim (eq-or-lt_of_le (let le : j ≤ i = omega (arith, l) in le)) [
          | inl same ↦ omega (arith, here, w.most-is, ap (λ n. saturated (count_at n fs)) same)
          | inr less ↦ omega (arith, before.2 j less, w.most-is, w.if-most-size.true)
        ],
      )
      | else-most-size w ↦ (
        subst (λ (n : ℕ). n < length c.args.fields.now.items) (sym w.at-is) before.0,
        omega (arith, before.1, w.most-is, ap (λ n. saturated (count_at n fs)) w.at-is),
        λ j l. elim (eq-or-lt_of_le (let le : j ≤ i = omega (arith, l) in le)) [
          | inl same ↦ omega (arith, here, w.most-is, w.if-most-size.false, ap (λ n. saturated (count_at n fs)) same)
          | inr less ↦ omega (arith, before.2 j less, w.most-is)
        ],
      )
    ]

pub returns-clause-largest : goal.returns-clause-largest
returns-clause-largest g c = λ differ i inside. let at = c.loop-i.invariant in
    omega (arith, at.1, at.2 i (omega (arith, inside, c.loop-i-test.false, c.len-i-end.ensures)))
