use Rattle.std.proofs.Common.{option_map, ap, ◌∙◌, sym}
use Rattle.std.specs.Str.{chars}
use Rattle.juniper_requests.specs.Fragments.{view_fragment}
use Rattle.juniper_requests.proofs.FirstFragments.{no_fragment, first_fragment}
use Rattle.juniper_requests.proofs.fragments.Fragments.get.Goals as goal

pub returns-in_err-copied : goal.returns-in_err-copied
returns-in_err-copied g c document are =
    let place = c.copied.ensures ∙ c.get.ensures.value ∙ are.1.knows c.args.name.now c.utf8.name in
    ap (option_map (λ f. view_fragment g.S.ParseScalarValue.content f.now)) c.from_residual.ensures
    ∙ sym (no_fragment (chars c.args.name.now) document (sym place ∙ c.in_err-copied.was))

pub returns : goal.returns
returns g c document are =
    let place = c.copied.ensures ∙ c.get.ensures.value ∙ are.1.knows c.args.name.now c.utf8.name in
    first_fragment (chars c.args.name.now) document c.in_ok-copied.field-0 (sym place ∙ c.in_ok-copied.was) _
    (rw are.0 at c.fragment_at.ensures)
