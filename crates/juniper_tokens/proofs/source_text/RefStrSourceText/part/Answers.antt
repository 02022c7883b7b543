use Rattle.std.proofs.Common.{arith}
use Rattle.std.specs.Str.{chars}
use Rattle.juniper_tokens.proofs.Offsets.{bytes_between}
use Rattle.juniper_tokens.proofs.source_text.RefStrSourceText.part.Goals as goal

pub overflow_sub-size : goal.overflow_sub-size
overflow_sub-size c = omega (
  arith,
  bytes_between (chars c.args.self.now) c.args.start.characters c.args.end.characters c.args.start.bytes c.args.end.bytes
      c.requires.start c.requires.end c.requires.forward,
)

pub text_before-requires : goal.text_before-requires
text_before-requires c =
    rw c.text_from.ensures.characters (omega (
      arith,
      bytes_between (chars c.args.self.now) c.args.start.characters c.args.end.characters c.args.start.bytes
          c.args.end.bytes c.requires.start c.requires.end c.requires.forward,
    ))
