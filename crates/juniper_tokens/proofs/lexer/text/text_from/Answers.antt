use Rattle.std.proofs.Common.{ap, ◌∙◌}
use Rattle.std.specs.Str.{chars}
use Rattle.juniper_tokens.proofs.Offsets.{byte_at_boundary, chars_drop}
use Rattle.juniper_tokens.proofs.lexer.text.text_from.Goals as goal

pub range_from-requires : goal.range_from-requires
range_from-requires c = λ _. byte_at_boundary c.args.start.characters _ _ c.utf8.text c.requires

pub returns-clause-characters : goal.returns-clause-characters
returns-clause-characters c = ap chars c.range_from.ensures.value
    ∙ chars_drop c.args.start.characters _ _ c.utf8.text c.requires
