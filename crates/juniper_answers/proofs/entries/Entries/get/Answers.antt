use Rattle.std.proofs.Common.{sym, ap, ◌∙◌, slice_get}
use Rattle.std.specs.Prelude.{option_and_then}
use Rattle.juniper_answers.specs.Keys.{has_text}
use Rattle.juniper_answers.proofs.Sides.{got, lookup_zip}
use Rattle.juniper_answers.proofs.entries.Entries.get.Goals as goal

pub returns-in-Some : goal.returns-in-Some
returns-in-Some g c =
    let vs = c.args.self.now.values.items in
    got c.get.result c.deref.result.now c.in-Some.place c.get.ensures.lookup.3
    ∙ ap (λ l. slice_get l c.in-Some.place) c.deref.ensures.value
    ∙ ap (option_and_then (slice_get vs)) c.in-Some.ensures.index
    ∙ sym (lookup_zip (has_text c.args.key.now) c.args.self.now.keys.keys vs)

pub returns-in-None : goal.returns-in-None
returns-in-None g c =
    let vs = c.args.self.now.values.items in
    ap (option_and_then (slice_get vs)) c.in-None.ensures.index
    ∙ sym (lookup_zip (has_text c.args.key.now) c.args.self.now.keys.keys vs)
