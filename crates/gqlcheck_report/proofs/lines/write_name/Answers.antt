use Rattle.std.proofs.Common.{rules}
use Rattle.gqlcheck_report.proofs.LineBytes.{name-bytes}
use Rattle.gqlcheck_report.proofs.lines.write_name.Goals as goal

pub returns : goal.returns
returns c = rw (name-bytes c.args.name.now c.utf8.name) (search rules)
