use Rattle.std.proofs.Common.{ap, ◌∙◌, rules}
use Rattle.std.specs.Str.{chars}
use Rattle.juniper_tokens.proofs.Offsets.{byte_at_boundary, chars_take}
use Rattle.juniper_tokens.proofs.lexer.text.text_before.Goals as goal

pub range-requires-clause-end_boundary : goal.range-requires-clause-end_boundary
range-requires-clause-end_boundary c = byte_at_boundary c.args.end.characters _ _ c.utf8.text c.requires

pub returns : goal.returns
returns c = ap chars (search (rules, c.range.ensures.value))
    ∙ chars_take c.args.end.characters _ _ c.utf8.text c.requires
