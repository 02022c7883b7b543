use Rattle.std.proofs.Common.{sym, subst}
use Rattle.std.specs.Str.{chars}
use Rattle.juniper_tokens.specs.LineTables.{StartLines}
use Rattle.juniper_tokens.proofs.Lines.{lines_start}
use Rattle.juniper_tokens.proofs.token_range.TokenRange.span.Goals as goal

pub place_on-start-requires-clause-starts : goal.place_on-start-requires-clause-starts
place_on-start-requires-clause-starts c = subst StartLines (sym c.requires.lines) (lines_start (chars c.args.source.now))
