use Rattle.std.proofs.Common.{ap, ◌∙◌, ◌++◌}
use Rattle.juniper_tokens.proofs.Offsets.{chars_joined}
use Rattle.juniper_tokens.proofs.lexer.text.joined.Goals as goal

pub returns : goal.returns
returns c = chars_joined _ _ _ c.utf8.a (c.in_ok-push_str.ensures.bytes
    ∙ ap (λ x. x ++ c.args.b.now) c.in_ok-text.ensures.ok)
