use Rattle.std.proofs.Common.{rules}
use Rattle.gqlcheck_report.proofs.LineBytes.{place-bytes}
use Rattle.gqlcheck_report.proofs.lines.write_place.Goals as goal

pub returns : goal.returns
returns c = rw (place-bytes c.args.kind c.args.start c.args.end (search rules) (search rules)) (search rules)
