use Rattle.std.proofs.Common.{sym, subst}
use Rattle.std.specs.Str.{chars}
use Rattle.juniper_tokens.specs.LineTables.{StartLines}
use Rattle.juniper_tokens.proofs.Lines.{lines_start}
use Rattle.juniper_tokens.proofs.Ranges.{start_index}
use Rattle.juniper_tokens.proofs.token_range.TokenRange.end_from.Goals as goal

pub end_on_line-requires-clause-forward : goal.end_on_line-requires-clause-forward
end_on_line-requires-clause-forward c = c.requires.range.forward

pub end_on_line-requires-clause-start : goal.end_on_line-requires-clause-start
end_on_line-requires-clause-start c =
    start_index (chars c.args.source.now) c.args.self.now c.args.start c.requires.range c.requires.start

pub line_of-requires : goal.line_of-requires
line_of-requires c = subst StartLines (sym c.requires.lines) (lines_start (chars c.args.source.now))

pub place_on-requires-clause-starts : goal.place_on-requires-clause-starts
place_on-requires-clause-starts c = subst StartLines (sym c.requires.lines) (lines_start (chars c.args.source.now))
