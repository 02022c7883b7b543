use Rattle.std.proofs.Common.{◌∷◌, ap, sym, ◌∙◌}
use Rattle.std.specs.Str.{chars}
use Rattle.std.proofs.lemmas.Str.{chars_past_char}
use Rattle.juniper_requests.proofs.bytes.first_and_rest.Goals as goal

pub returns-clause-parts : goal.returns-clause-parts
returns-clause-parts c =
    let steps = sym c.chars-rest.ensures.rest ∙ c.in_ok-first.ensures.steps.0 in
    chars_past_char c.args.text.now _ c.in_ok-first.first c.utf8.text steps
    ∙ ap (λ t. c.in_ok-first.first ∷ chars t) (sym c.as_str.ensures)
