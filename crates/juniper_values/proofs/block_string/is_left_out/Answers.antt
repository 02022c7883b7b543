use Rattle.std.proofs.Common.{◌∙◌, ap, sym}
use Rattle.std.specs.Str.{chars}
use Rattle.juniper_values.specs.device.BlockSteps.{is_left_out}
use Rattle.graphql_lexical.specs.Tokens.{mark}
use Rattle.juniper_values.specs.BlockStrings.{line_feed}
use Rattle.juniper_values.proofs.BlockTexts.{starts_chars, ascii_quotes, ascii_feed, or_false}
use Rattle.juniper_values.proofs.block_string.is_left_out.Goals as goal

pub returns-in-92 : goal.returns-in-92
returns-in-92 c =
    let rest = c.args.rest.now in
    starts_chars c.starts_with.result mark rest c.utf8.rest ascii_quotes c.starts_with.ensures.cases
    ∙ or_false _ ∙ ap (λ d. is_left_out d (chars rest)) (sym c.in-92.is)

pub returns-in-13 : goal.returns-in-13
returns-in-13 c =
    let rest = c.args.rest.now in
    let starts = c.starts_with-in-13 in
    starts_chars starts.result line_feed rest c.utf8.rest ascii_feed starts.ensures.cases
    ∙ ap (λ d. is_left_out d (chars rest)) (sym c.in-13.is)
