use Rattle.std.proofs.Common.{sym, subst}
use Rattle.std.specs.Str.{chars}
use Rattle.juniper_tokens.specs.declared.lexer.text.Offset.{Offset}
use Rattle.juniper_tokens.specs.device.Offsets.{IsOffset}
use Rattle.juniper_tokens.proofs.Ranges.{range_order, range_width}
use Rattle.juniper_tokens.proofs.token_range.TokenRange.text.Goals as goal

pub size-size-requires-clause-bytes : goal.size-size-requires-clause-bytes
size-size-requires-clause-bytes c = range_order (chars c.args.source.now) c.args.self.now c.requires

pub text_before-requires : goal.text_before-requires
text_before-requires c =
    subst (λ (b : Offset). IsOffset b (chars c.text_from-rest.result.now)) (sym c.size-size.ensures)
    (range_width (chars c.args.source.now) _ c.args.self.now c.requires c.text_from-rest.ensures.characters)
