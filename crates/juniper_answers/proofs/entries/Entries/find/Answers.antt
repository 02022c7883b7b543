use Rattle.std.proofs.Common.{sym, ap, ◌∙◌, length, arith}
use Rattle.std.specs.Prelude.{option_and_then}
use Rattle.juniper_answers.specs.Keys.{has_text}
use Rattle.juniper_answers.proofs.Sides.{below, below_at, below_past, position_zip}
use Rattle.juniper_answers.proofs.entries.Entries.find.Goals as goal

pub returns-in_err-place : goal.returns-in_err-place
returns-in_err-place g c =
    let vs = c.args.self.now.values.items in
    c.from_residual.ensures ∙ ap (option_and_then (below (length vs))) c.in_err-place.ensures.index
    ∙ sym (position_zip (has_text c.args.key.now) c.args.self.now.keys.keys vs)

pub returns-then-place-len : goal.returns-then-place-len
returns-then-place-len g c =
    let vs = c.args.self.now.values.items in
    sym (below_at (length vs) c.in_ok-place.place
    (omega (arith, c.if-place-len.true, c.len.ensures, c.args.self.now.values.ok.0)))
    ∙ ap (option_and_then (below (length vs))) c.in_ok-place.ensures.index
    ∙ sym (position_zip (has_text c.args.key.now) c.args.self.now.keys.keys vs)

pub returns-else-place-len : goal.returns-else-place-len
returns-else-place-len g c =
    let vs = c.args.self.now.values.items in
    sym (below_past (length vs) c.in_ok-place.place
    (omega (arith, c.if-place-len.false, c.len.ensures, c.args.self.now.values.ok.0)))
    ∙ ap (option_and_then (below (length vs))) c.in_ok-place.ensures.index
    ∙ sym (position_zip (has_text c.args.key.now) c.args.self.now.keys.keys vs)
